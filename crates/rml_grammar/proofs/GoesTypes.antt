-- Types and signatures can be finished.
use Rattle.std.proofs.Common.{◌≡◌, ℕ, zero, suc, ◌<◌, List, [], ◌∷◌, length, refl, sym, ap, subst, ◌∙◌, arith, Option, Some, None, Result, Ok}
use Rattle.rml_base.specs.declared.place.Place.{Place}
use Rattle.rml_syntax.specs.declared.token.Spot.{Spot}
use Rattle.rml_syntax.specs.declared.token.Mark.{Mark}
use Rattle.rml_syntax.specs.declared.token.Mark.TheVariants as mark
use Rattle.rml_syntax.specs.declared.rules.Long.{Long}
use Rattle.rml_syntax.specs.declared.types.TypeExp.{TypeExp}
use Rattle.rml_syntax.specs.declared.types.TypeExp.TheVariants as type
use Rattle.rml_syntax.specs.declared.types.Sig.{Sig}
use Rattle.rml_grammar.specs.declared.fault.Fault.{Fault}
use Rattle.rml_grammar.specs.declared.fault.ParseKind.TheVariants as kind
use Rattle.rml_grammar.specs.declared.front.Front.{Front}
use Rattle.rml_grammar.specs.declared.front.Front.TheVariants as front
use Rattle.rml_grammar.specs.declared.types.Bracket.{Bracket}
use Rattle.rml_grammar.specs.declared.types.Bracket.TheVariants as bracket
use Rattle.rml_grammar.specs.declared.types.Types.{Types}
use Rattle.rml_grammar.specs.declared.types.Types.TheVariants as types
use Rattle.rml_grammar.specs.Tokens.{named, sign, after, front_of}
use Rattle.rml_grammar.specs.Reading.{◌>>=◌, Parser, before, qualified, repeated, separated, then_by}
use Rattle.rml_grammar.specs.Trees.{named_type, product_type}
use Rattle.rml_grammar.specs.Types.{Inner, bracket_at, bracket_by, bracket_from, bracket_type, in_bracket, inner_bracket, longs_at, one_from, outputs, product, signature, tatom, tseq, tseq_by, tseq_from, tseq_inside, types_of}
use Rattle.rml_grammar.proofs.Holds.{opened}
use Rattle.rml_grammar.proofs.Views.{has}
use Rattle.rml_grammar.proofs.Levels.{bracket_level}
use Rattle.rml_grammar.proofs.Fine.{sign-decides}
use Rattle.rml_grammar.proofs.FineTypes as fine
use Rattle.rml_grammar.proofs.Goes.{Anything, Wide, narrow, closed, arrow, Goes, Next, Branch, behind, like, at, wide-all, ok-is, bind-ok, fine-within-ok, goes-give, goes-refused, goes-map, goes-then, goes-first, goes-by, goes-is, goes-repeated, goes-separated, goes-sign, next-is, next-sign, next-repeated, none-repeats, never-sign, next-give, next-map, next-then, refuses, takes-sign}
use Rattle.rml_grammar.proofs.GoesNames.{Quiet, ByName, quiet-next, quiet-anywhere, named-next, quiet-then, quiet-map, named-map, is-name, goes-qualified, quiet-qualified, long-behind, goes-longs, quiet-longs, goes-longs-then, named-longs-then}

behind-sign : (m : Mark) (us vs : List Spot) → after m us ≡ Some vs → length vs < length us
behind-sign m us vs e = let o = opened m us vs (has m us) e in let l = ap length o.1 in omega arith

pub wide-star : (z : List Spot) → Wide z → after mark.Star z ≡ None
wide-star z w = wide-all (λ us. after mark.Star us ≡ None) refl (λ p us. refl) (λ p us. refl) (λ n p us. refl) (λ p us. refl) (λ p us. refl) (λ p us. refl) z w

bracket-type-goes : (b : Bracket) (ls : List Long) → Goes Wide (λ us. bracket_type us b ls)
bracket-type-goes (bracket.Sig x) ls = goes-give Wide (named_type (type.Rel x) ls)
bracket-type-goes (bracket.Types []) [] = goes-refused Wide kind.Unexpected
bracket-type-goes (bracket.Types []) (l ∷ ls) = goes-give Wide (type.App [] (l ∷ ls))
bracket-type-goes (bracket.Types (x ∷ [])) [] = goes-give Wide x
bracket-type-goes (bracket.Types (x ∷ [])) (l ∷ ls) = goes-give Wide (type.App (x ∷ []) (l ∷ ls))
bracket-type-goes (bracket.Types (x ∷ y ∷ xs)) [] = goes-refused Wide kind.Unexpected
bracket-type-goes (bracket.Types (x ∷ y ∷ xs)) (l ∷ ls) = goes-give Wide (type.App (x ∷ y ∷ xs) (l ∷ ls))

bracket-type-quiet : (b : Bracket) (l : Long) (ls : List Long) → Quiet Wide (λ us. bracket_type us b (l ∷ ls))
bracket-type-quiet (bracket.Sig x) l ls = record { gives = named_type (type.Rel x) (l ∷ ls); reads = λ z s. refl }
bracket-type-quiet (bracket.Types []) l ls = record { gives = type.App [] (l ∷ ls); reads = λ z s. refl }
bracket-type-quiet (bracket.Types (x ∷ [])) l ls = record { gives = named_type x (l ∷ ls); reads = λ z s. refl }
bracket-type-quiet (bracket.Types (x ∷ y ∷ xs)) l ls = record { gives = type.App (x ∷ y ∷ xs) (l ∷ ls); reads = λ z s. refl }

-- what stands in a bracket, behind which nothing is looked at
pub record Encloses (p : Parser Bracket) : Type 0 where
  pub goes : Goes Anything p
  pub next : Next Anything Anything p
  pub strict : (us rest : List Spot) (b : Bracket) → p us ≡ Ok (b, rest) → length rest < length us

abbrev pub InnerGoes : Inner → Type 0
InnerGoes None = Unit {0}
InnerGoes (Some p) = Encloses p

inner-is-fine : (inner : Inner) → InnerGoes inner → fine.InnerFine inner
inner-is-fine None h = tt
inner-is-fine (Some p) h = h.goes.fine

-- a bracket and the names behind it
after-bracket : Bracket → Parser TypeExp
after-bracket b us = longs_at us >>= λ ls. bracket_type ls.1 b ls.0

module _ (b : Bracket) where
  after-goes : Goes Wide (after-bracket b)
  unfolding after-bracket
  after-goes = goes-longs-then (λ ls us. bracket_type us b ls) (bracket-type-goes b) (bracket-type-quiet b)

  after-named : ByName Wide (after-bracket b)
  unfolding after-bracket
  after-named = named-longs-then (λ ls us. bracket_type us b ls) (bracket-type-goes b) (bracket-type-quiet b)

-- a variable and a name, and the names behind them
behind-var : ℕ → Place → Parser TypeExp
behind-var v p us = longs_at us >>= λ ls. Ok (named_type (type.Var v p) ls.0, ls.1)

behind-name : ℕ → Place → Parser TypeExp
behind-name n p us = qualified (n, p) us (after mark.Dot us) >>= λ l. longs_at l.1 >>= λ ls. Ok (type.App [] (l.0 ∷ ls.0), ls.1)

module _ (n : ℕ) (p : Place) where
  var-goes : Goes Wide (behind-var n p)
  unfolding behind-var
  var-goes = goes-map Wide longs_at (λ ls. named_type (type.Var n p) ls) goes-longs

  var-quiet : Quiet Wide (behind-var n p)
  unfolding behind-var
  var-quiet = quiet-map Wide longs_at (λ ls. named_type (type.Var n p) ls) quiet-longs

  name-goes : Goes Wide (behind-name n p)
  unfolding behind-name
  name-goes = goes-then Wide Wide (λ us. qualified (n, p) us (after mark.Dot us)) (λ l us. longs_at us >>= λ ls. Ok (type.App [] (l ∷ ls.0), ls.1)) (goes-qualified (n, p)) (λ l. goes-map Wide longs_at (λ ls. type.App [] (l ∷ ls)) goes-longs)
      (λ l. quiet-next Wide (λ us. longs_at us >>= λ ls. Ok (type.App [] (l ∷ ls.0), ls.1)) (quiet-map Wide longs_at (λ ls. type.App [] (l ∷ ls)) quiet-longs)) (λ a b rest e z s. s)

  name-quiet : Quiet Wide (behind-name n p)
  unfolding behind-name
  name-quiet = quiet-then Wide (λ us. qualified (n, p) us (after mark.Dot us)) (λ l us. longs_at us >>= λ ls. Ok (type.App [] (l ∷ ls.0), ls.1)) (quiet-qualified (n, p)) (λ l. quiet-map Wide longs_at (λ ls. type.App [] (l ∷ ls)) quiet-longs)

-- behind a bracket that opens
behind-round : Parser Bracket → Parser TypeExp
behind-round q us = q us >>= λ b. after-bracket b.0 b.1

module _ (q : Parser Bracket) (encloses : Encloses q) where
  round-goes : Goes Wide (behind-round q)
  unfolding behind-round
  round-goes = goes-then Anything Wide q after-bracket encloses.goes after-goes (λ b. named-next Wide (after-bracket b) (after-named b)) (λ a b rest e z s. tt)

  round-next : Next Anything Wide (behind-round q)
  unfolding behind-round
  round-next = next-then Anything Anything Wide q after-bracket encloses.next (λ b. named-next Wide (after-bracket b) (after-named b))

round-by : (inner : Inner) → InnerGoes inner → (y : Spot) → front_of (y ∷ []) ≡ front.Round → Branch Wide (tatom inner) y
unfolding behind-round after-bracket
round-by None h y e = refuses Wide (tatom None) y kind.TooDeep (λ us. rw e refl)
round-by (Some q) h y e = behind (behind-round q) (round-goes q h) (round-next q h) (λ us. rw e refl)

module _ (inner : Inner) (goes : InnerGoes inner) where
  tatom-named : (n : ℕ) (p : Place) (us : List Spot) → tatom inner (named n p ∷ us) ≡ behind-name n p us
  unfolding behind-name
  tatom-named n p us = rw (long-behind n p us) refl

  by-tatom : (y : Spot) (f : Front) → front_of (y ∷ []) ≡ f → Branch Wide (tatom inner) y
  unfolding behind-var
  by-tatom y (front.TyVar v p) e = behind (behind-var v p) (var-goes v p) (quiet-anywhere Anything Wide (behind-var v p) (λ z s. tt) (var-quiet v p)) (λ us. rw e refl)
  by-tatom y front.Named e =
      let i = is-name y e in
      subst (λ (s : Spot). Branch Wide (tatom inner) s) (sym i.1) (behind (behind-name i.0 y.place) (name-goes i.0 y.place) (quiet-anywhere Anything Wide (behind-name i.0 y.place) (λ z s. tt) (name-quiet i.0 y.place)) (tatom-named i.0 y.place))
  by-tatom y front.Round e = round-by inner goes y e
  by-tatom y f e = refuses Wide (tatom inner) y kind.Unexpected (λ us. rw e refl)

  pub tatom-goes : Goes Wide (tatom inner)
  tatom-goes = goes-first Wide (tatom inner) (fine.tatom-fine inner (inner-is-fine inner goes)) (λ a h z s. absurd (cc h)) (λ y. by-tatom y (front_of (y ∷ [])) refl)

  pub tatom-by-name : ByName Wide (tatom inner)
  tatom-by-name = let q = name-quiet 0 at in record { gives = q.gives; reads = λ z s. (tatom-named 0 at z ∙ q.reads z s) }

  factors-goes : Goes Wide (repeated (after mark.Star) (tatom inner))
  factors-goes = goes-repeated Wide (after mark.Star) (tatom inner) (sign-decides mark.Star) tatom-goes (named-next Wide (tatom inner) tatom-by-name) wide-star (λ y us e. never-sign mark.Star (tatom inner) y us e)

  factors-next : Next Wide Wide (repeated (after mark.Star) (tatom inner))
  factors-next = next-repeated Wide (after mark.Star) (tatom inner) (sign-decides mark.Star) tatom-goes (named-next Wide (tatom inner) tatom-by-name) wide-star (λ y us e. never-sign mark.Star (tatom inner) y us e)

  pub product-goes : Goes Wide (product inner)
  product-goes = goes-map Wide (separated (after mark.Star) (tatom inner)) (λ xs. product_type xs)
      (goes-separated Wide (after mark.Star) (tatom inner) (sign-decides mark.Star) tatom-goes (named-next Wide (tatom inner) tatom-by-name) wide-star (λ y us e. never-sign mark.Star (tatom inner) y us e))

  pub product-by-name : ByName Wide (product inner)
  product-by-name = record { gives = product_type (tatom-by-name.gives ∷ []); reads = λ z s. (rw (tatom-by-name.reads z s, none-repeats (after mark.Star) (tatom inner) z (wide-star z s)) refl) }

  -- one type that begins with a factor
  one-goes : (x : TypeExp) → Goes Wide (λ us. one_from inner (x, us))
  one-goes x = goes-map Wide (repeated (after mark.Star) (tatom inner)) (λ xs. types.One (product_type (x ∷ xs))) factors-goes

  one-quiet : (x : TypeExp) → Quiet Wide (λ us. one_from inner (x, us))
  one-quiet x = record { gives = types.One (product_type (x ∷ [])); reads = λ z s. (rw (none-repeats (after mark.Star) (tatom inner) z (wide-star z s)) refl) }

  from-type : (b : Bracket) (ls : List Long) → Goes Wide (λ us. bracket_type us b ls >>= one_from inner)
  from-type b ls = goes-then Wide Wide (λ us. bracket_type us b ls) (λ x us. one_from inner (x, us)) (bracket-type-goes b ls) one-goes (λ x. quiet-next Wide (λ us. one_from inner (x, us)) (one-quiet x)) (λ a c rest e z s. s)

  from-quiet : (b : Bracket) (l : Long) (ls : List Long) → Quiet Wide (λ us. bracket_type us b (l ∷ ls) >>= one_from inner)
  from-quiet b l ls = quiet-then Wide (λ us. bracket_type us b (l ∷ ls)) (λ x us. one_from inner (x, us)) (bracket-type-quiet b l ls) one-quiet

  seq-from : (b : Bracket) (ls : List Long) → Goes Wide (λ us. tseq_from inner us b ls)
  seq-from (bracket.Sig x) ls = from-type (bracket.Sig x) ls
  seq-from (bracket.Types []) ls = from-type (bracket.Types []) ls
  seq-from (bracket.Types (x ∷ [])) ls = from-type (bracket.Types (x ∷ [])) ls
  seq-from (bracket.Types (x ∷ y ∷ xs)) [] = goes-give Wide (types.Bare (x ∷ y ∷ xs))
  seq-from (bracket.Types (x ∷ y ∷ xs)) (l ∷ ls) = from-type (bracket.Types (x ∷ y ∷ xs)) (l ∷ ls)

  seq-quiet : (b : Bracket) (l : Long) (ls : List Long) → Quiet Wide (λ us. tseq_from inner us b (l ∷ ls))
  seq-quiet (bracket.Sig x) l ls = from-quiet (bracket.Sig x) l ls
  seq-quiet (bracket.Types []) l ls = from-quiet (bracket.Types []) l ls
  seq-quiet (bracket.Types (x ∷ [])) l ls = from-quiet (bracket.Types (x ∷ [])) l ls
  seq-quiet (bracket.Types (x ∷ y ∷ xs)) l ls = from-quiet (bracket.Types (x ∷ y ∷ xs)) l ls

  -- a bracket and the names behind it, where a list of types may stand
  seq-after : Bracket → Parser Types
  seq-after b us = longs_at us >>= λ ls. tseq_from inner ls.1 b ls.0

  seq-after-goes : (b : Bracket) → Goes Wide (seq-after b)
  unfolding seq-after
  seq-after-goes b = goes-longs-then (λ ls us. tseq_from inner us b ls) (seq-from b) (seq-quiet b)

  seq-after-named : (b : Bracket) → ByName Wide (seq-after b)
  unfolding seq-after
  seq-after-named b = named-longs-then (λ ls us. tseq_from inner us b ls) (seq-from b) (seq-quiet b)

  module _ (q : Parser Bracket) (h : Encloses q) where
    seq-by : List Spot → Option (List Spot) → Result (Types × List Spot) Fault
    seq-by us None = q us >>= λ b. seq-after b.0 b.1
    seq-by us (Some vs) = Ok (types.Bare [], vs)

    seq-is : (us : List Spot) (o : Option (List Spot)) → after mark.CloseRound us ≡ o → tseq_inside inner q us ≡ seq-by us (after mark.CloseRound us)
    unfolding seq-by seq-after
    seq-is us None e = rw (e, tseq_inside) refl
    seq-is us (Some vs) e = rw (e, tseq_inside) refl

    some-goes : Goes Wide (λ us. q us >>= λ b. seq-after b.0 b.1)
    some-goes = goes-then Anything Wide q seq-after h.goes seq-after-goes (λ b. named-next Wide (seq-after b) (seq-after-named b)) (λ a b rest e z s. tt)

    not-empty : (rest : List Spot) (a : Types) → (q rest >>= λ b. seq-after b.0 b.1) ≡ Ok (a, rest) → ⊥
    not-empty rest a e =
        let i = bind-ok (q rest) (λ b. seq-after b.0 b.1) (a, rest) e in
        let l = h.strict rest i.0.1 i.0.0 i.1 in
        let m = fine-within-ok (length i.0.1) (seq-after i.0.0 i.0.1) a rest ((seq-after-goes i.0.0).fine.within i.0.1) i.2 in
        omega arith

    inside-goes : Goes Wide (tseq_inside inner q)
    unfolding seq-by
    inside-goes = goes-is Wide (tseq_inside inner q) (λ us. seq-by us (after mark.CloseRound us)) (λ us. seq-is us (after mark.CloseRound us) refl)
        (goes-by Wide (after mark.CloseRound) seq-by (λ us. Ok (types.Bare [], us)) (sign-decides mark.CloseRound) (λ us vs. refl) some-goes (goes-give Wide (types.Bare [])) (next-give Anything Wide (types.Bare []) (λ z s. tt))
        (λ rest a e z s. absurd (not-empty rest a e)) (λ y us e. never-sign {A = Types} mark.CloseRound (λ vs. Ok (types.Bare [], vs)) y us e))

    inside-next : Next Anything Wide (tseq_inside inner q)
    inside-next = record { more = sign mark.CloseRound at ∷ []; gives = types.Bare []; allowed = λ z s. tt; reads = λ z s. refl }

  abbrev one-type : Parser Types
  one-type us = product inner us >>= λ t. Ok (types.One t.0, t.1)

  one-type-goes : Goes Wide one-type
  one-type-goes = goes-map Wide (product inner) (λ t. types.One t) product-goes

  same-one : (z : List Spot) → Wide z → tseq inner z ≡ one-type z
  same-one z w = wide-all (λ us. tseq inner us ≡ one-type us) refl (λ p us. refl) (λ p us. refl) (λ k p us. refl) (λ p us. refl) (λ p us. refl) (λ p us. refl) z w

  as-one : (y : Spot) → ((us : List Spot) → tseq inner (y ∷ us) ≡ one-type (y ∷ us)) → Branch Wide (tseq inner) y
  as-one y e = like one-type one-type-goes e (λ us a h z s. same-one z s ∙ one-type-goes.ends [] (y ∷ us) a h z s)

seq-round : (inner : Inner) (h : InnerGoes inner) (y : Spot) → front_of (y ∷ []) ≡ front.Round → Branch Wide (tseq inner) y
seq-round None h y e = refuses Wide (tseq None) y kind.TooDeep (λ us. rw e refl)
seq-round (Some q) h y e = behind (tseq_inside (Some q) q) (inside-goes (Some q) h q h) (inside-next (Some q) h q h) (λ us. rw e refl)

module _ (inner : Inner) (goes : InnerGoes inner) where
  by-seq : (y : Spot) (f : Front) → front_of (y ∷ []) ≡ f → Branch Wide (tseq inner) y
  by-seq y front.Round e = seq-round inner goes y e
  by-seq y f e = as-one inner goes y (λ us. ap (tseq_by inner (y ∷ us)) e)

  pub tseq-goes : Goes Wide (tseq inner)
  tseq-goes = goes-first Wide (tseq inner) (fine.seq-fine inner (inner-is-fine inner goes)) (λ a h z s. same-one inner goes z s ∙ (one-type-goes inner goes).ends [] [] a h z s) (λ y. by-seq y (front_of (y ∷ [])) refl)

  pub tseq-by-name : ByName Wide (tseq inner)
  tseq-by-name = let q = named-map Wide (product inner) (λ t. types.One t) (product-by-name inner goes) in record { gives = q.gives; reads = λ z s. q.reads z s }

  outputs-goes : (ins : Types) → Goes Wide (outputs inner ins)
  outputs-goes ins = goes-map Wide (tseq inner) (λ outs. record { inputs = types_of ins; outputs = types_of outs }) tseq-goes

  outputs-by-name : (ins : Types) → ByName Wide (outputs inner ins)
  outputs-by-name ins = named-map Wide (tseq inner) (λ outs. record { inputs = types_of ins; outputs = types_of outs }) tseq-by-name

  abbrev arrowed : Parser Types
  arrowed us = tseq inner us >>= before (after mark.Arrow)

  pub signature-goes : Goes Wide (signature inner)
  signature-goes = goes-then Anything Wide arrowed (outputs inner) (goes-sign Wide Anything mark.Arrow (tseq inner) (λ z. arrow) tseq-goes) outputs-goes (λ ins. named-next Wide (outputs inner ins) (outputs-by-name ins)) (λ a b rest e z s. tt)

  pub signature-next : Next Anything Wide (signature inner)
  signature-next = next-then Anything Anything Wide arrowed (outputs inner) (next-then Anything Wide Anything (tseq inner) (λ a us. then_by a us (after mark.Arrow us)) (named-next Wide (tseq inner) tseq-by-name) (λ a. next-sign Wide Anything mark.Arrow a (λ z. arrow)))
      (λ ins. named-next Wide (outputs inner ins) (outputs-by-name ins))

  -- what stands in a bracket
  abbrev closed-outputs : Types → Parser Sig
  closed-outputs ins us = outputs inner ins us >>= before (after mark.CloseRound)

  closed-goes : (ins : Types) → Goes Anything (closed-outputs ins)
  closed-goes ins = goes-sign Wide Anything mark.CloseRound (outputs inner ins) (λ z. narrow closed) (outputs-goes ins)

  sig-goes : (ins : Types) → Goes Anything (λ us. closed-outputs ins us >>= λ s. Ok (bracket.Sig s.0, s.1))
  sig-goes ins = goes-map Anything (closed-outputs ins) (λ s. bracket.Sig s) (closed-goes ins)

  sig-next : (ins : Types) → Next Anything Anything (λ us. closed-outputs ins us >>= λ s. Ok (bracket.Sig s.0, s.1))
  sig-next ins = next-map Anything Anything (closed-outputs ins) (λ s. bracket.Sig s) (next-then Anything Wide Anything (outputs inner ins) (λ a us. then_by a us (after mark.CloseRound us)) (named-next Wide (outputs inner ins) (outputs-by-name ins)) (λ a. next-sign Wide Anything mark.CloseRound a (λ z. narrow closed)))

  wide-commas : (z : List Spot) → Wide z → after mark.Comma z ≡ None
  wide-commas z w = wide-all (λ us. after mark.Comma us ≡ None) refl (λ p us. refl) (λ p us. refl) (λ n p us. refl) (λ p us. refl) (λ p us. refl) (λ p us. refl) z w

  more-types : Goes Wide (repeated (after mark.Comma) (product inner))
  more-types = goes-repeated Wide (after mark.Comma) (product inner) (sign-decides mark.Comma) (product-goes inner goes) (named-next Wide (product inner) (product-by-name inner goes)) wide-commas (λ y us e. never-sign mark.Comma (product inner) y us e)

  abbrev closed-types : Parser (List TypeExp)
  closed-types us = repeated (after mark.Comma) (product inner) us >>= before (after mark.CloseRound)

  from-goes : (ins : Types) → Goes Anything (bracket_from inner ins)
  from-goes (types.Bare ts) = goes-refused Anything kind.Unexpected
  from-goes (types.One t) = goes-map Anything closed-types (λ ts. bracket.Types (t ∷ ts)) (goes-sign Wide Anything mark.CloseRound (repeated (after mark.Comma) (product inner)) (λ z. narrow closed) more-types)

  -- a closing bracket is taken
  closing : {A B : Type 0} (p : Parser A) (f : A → B) → Goes Wide p → (us rest : List Spot) (b : B) → ◌>>=◌ {B = B × List Spot} (p us >>= before (after mark.CloseRound)) (λ x. Ok (f x.0, x.1)) ≡ Ok (b, rest) → length rest < length us
  closing {A} {B} p f g us rest b e =
      let i = bind-ok (p us >>= before (after mark.CloseRound)) (λ x. Ok (f x.0, x.1)) (b, rest) e in
      let j = bind-ok (p us) (before (after mark.CloseRound)) i.0 i.1 in
      let same : i.0.1 ≡ rest = ap (λ (w : B × List Spot). w.1) (ok-is (f i.0.0, i.0.1) (b, rest) i.2) in
      let l = takes-sign mark.CloseRound j.0.0 i.0.0 j.0.1 i.0.1 j.2 in
      let w = fine-within-ok (length us) (p us) j.0.0 j.0.1 (g.fine.within us) j.1 in
      let n = ap length same in
      omega arith

  from-strict : (ins : Types) (us rest : List Spot) (b : Bracket) → bracket_from inner ins us ≡ Ok (b, rest) → length rest < length us
  from-strict (types.Bare ts) us rest b e = absurd (cc e)
  from-strict (types.One t) us rest b e = closing (repeated (after mark.Comma) (product inner)) (λ ts. bracket.Types (t ∷ ts)) more-types us rest b e

  abbrev by-arrow : Types → Parser Bracket
  by-arrow ins us = bracket_by inner ins us (after mark.Arrow us)

  by-arrow-goes : (ins : Types) → Goes Anything (by-arrow ins)
  by-arrow-goes ins = goes-by Anything (after mark.Arrow) (bracket_by inner ins) (λ us. closed-outputs ins us >>= λ s. Ok (bracket.Sig s.0, s.1)) (sign-decides mark.Arrow) (λ us vs. refl) (from-goes ins) (sig-goes ins) (sig-next ins)
      (λ rest a e z s. (let l = from-strict ins rest rest a e in absurd (omega arith))) (λ y us e. never-sign {A = Bracket} mark.Arrow (λ us. closed-outputs ins us >>= λ s. Ok (bracket.Sig s.0, s.1)) y us e)

  by-arrow-next : (ins : Types) → Next Wide Anything (by-arrow ins)
  by-arrow-next ins = let n = sig-next ins in record { more = sign mark.Arrow at ∷ n.more; gives = n.gives; allowed = λ z s. arrow; reads = λ z s. n.reads z s }

  arrow-strict : (ins : Types) (us rest : List Spot) (b : Bracket) (o : Option (List Spot)) → after mark.Arrow us ≡ o → by-arrow ins us ≡ Ok (b, rest) → length rest < length us
  arrow-strict ins us rest b None h e = from-strict ins us rest b (let g : bracket_by inner ins us None ≡ Ok (b, rest) = rw h at e in g)
  arrow-strict ins us rest b (Some vs) h e =
      let g : bracket_by inner ins us (Some vs) ≡ Ok (b, rest) = rw h at e in
      let l = closing (outputs inner ins) (λ s. bracket.Sig s) (outputs-goes ins) vs rest b g in
      let m = behind-sign mark.Arrow us vs h in
      omega arith

  in-bracket-goes : Goes Anything (in_bracket inner)
  in-bracket-goes = goes-then Wide Anything (tseq inner) by-arrow tseq-goes by-arrow-goes by-arrow-next (λ ins b rest e z s. (let l = arrow-strict ins rest rest b (after mark.Arrow rest) refl e in absurd (omega arith)))

  in-bracket-next : Next Anything Anything (in_bracket inner)
  in-bracket-next = next-then Anything Wide Anything (tseq inner) by-arrow (named-next Wide (tseq inner) tseq-by-name) by-arrow-next

  in-bracket-strict : (us rest : List Spot) (b : Bracket) → in_bracket inner us ≡ Ok (b, rest) → length rest < length us
  in-bracket-strict us rest b e =
      let i = bind-ok (tseq inner us) (λ ins. by-arrow ins.0 ins.1) (b, rest) e in
      let w = fine-within-ok (length us) (tseq inner us) i.0.0 i.0.1 (tseq-goes.fine.within us) i.1 in
      let l = arrow-strict i.0.0 i.0.1 rest b (after mark.Arrow i.0.1) refl i.2 in
      omega arith

bracket-encloses : (n : ℕ) → Encloses (bracket_at n)
bracket-encloses zero = record {
  goes = goes-is Anything (bracket_at zero) (in_bracket None) (bracket_level zero) (in-bracket-goes None tt);
  next = next-is Anything Anything (bracket_at zero) (in_bracket None) (bracket_level zero) (in-bracket-next None tt);
  strict = λ us rest b e. in-bracket-strict None tt us rest b (sym (bracket_level zero us) ∙ e);
}
bracket-encloses (suc n) = let h = bracket-encloses n in record {
  goes = goes-is Anything (bracket_at (suc n)) (in_bracket (Some (bracket_at n))) (bracket_level (suc n)) (in-bracket-goes (Some (bracket_at n)) h);
  next = next-is Anything Anything (bracket_at (suc n)) (in_bracket (Some (bracket_at n))) (bracket_level (suc n)) (in-bracket-next (Some (bracket_at n)) h);
  strict = λ us rest b e. in-bracket-strict (Some (bracket_at n)) h us rest b (sym (bracket_level (suc n) us) ∙ e);
}

pub inner-goes : (n : ℕ) → InnerGoes (inner_bracket n)
inner-goes zero = tt
inner-goes (suc n) = bracket-encloses n
