-- A type is refused at a token whatever follows that token.
use Rattle.std.proofs.Common.{◌≡◌, ℕ, zero, suc, ◌<◌, List, [], ◌∷◌, length, refl, Some, None, Ok}
use Rattle.rml_syntax.specs.declared.token.Spot.{Spot}
use Rattle.rml_syntax.specs.declared.token.Mark.TheVariants as mark
use Rattle.rml_syntax.specs.declared.rules.Long.{Long}
use Rattle.rml_syntax.specs.declared.types.TypeExp.{TypeExp}
use Rattle.rml_syntax.specs.declared.types.TypeExp.TheVariants as type
use Rattle.rml_grammar.specs.declared.front.Front.{Front}
use Rattle.rml_grammar.specs.declared.front.Front.TheVariants as front
use Rattle.rml_grammar.specs.declared.types.Bracket.{Bracket}
use Rattle.rml_grammar.specs.declared.types.Bracket.TheVariants as bracket
use Rattle.rml_grammar.specs.declared.types.Types.{Types}
use Rattle.rml_grammar.specs.declared.types.Types.TheVariants as types
use Rattle.rml_grammar.specs.Tokens.{after, front_of, rest_of}
use Rattle.rml_grammar.specs.Reading.{◌>>=◌, Parser, repeated, separated, before, inside, long_at}
use Rattle.rml_grammar.specs.Trees.{named_type, product_type}
use Rattle.rml_grammar.specs.Types.{Inner, name_next, longs_at, bracket_type, tatom_by, tatom, product, one_from, tseq_from, tseq_inside, tseq_by, tseq, types_of, outputs, signature, bracket_from, bracket_by, in_bracket, bracket_at, inner_bracket}
use Rattle.rml_grammar.proofs.Levels.{bracket_level}
use Rattle.rml_grammar.proofs.Holds.{holds-map, long-sound}
use Rattle.rml_grammar.proofs.ShortTypes.{shorter-long}
use Rattle.rml_grammar.proofs.Fine.{Fine, Choice, shut, here, Decides, fine-give, fine-refused, fine-then, fine-map, fine-skip, fine-front, fine-by, fine-signs, fine-separated, fine-before, fine-long, fine-repeated-here, sign-decides, fine-is}

name-choice : (s : Spot) (f : Front) → front_of (s ∷ []) ≡ f → Choice name_next s
name-choice s front.Named e = here (λ us. rw e refl)
name-choice s f e = shut (λ us. rw e refl)

pub name-decides : Decides name_next
name-decides = record { nil = refl; first = λ y. name-choice y (front_of (y ∷ [])) refl }

pub longs-fine : Fine longs_at
longs-fine = fine-repeated-here name_next long_at name-decides fine-long (λ y us e. holds-map _ (λ z. length z.1 < suc (length us)) (long_at (y ∷ us)) (long-sound (y ∷ us)) (λ z h. shorter-long h))

bracket-type-fine : (b : Bracket) (ls : List Long) → Fine (λ us. bracket_type us b ls)
bracket-type-fine (bracket.Sig x) ls = fine-give (named_type (type.Rel x) ls)
bracket-type-fine (bracket.Types []) [] = fine-refused _
bracket-type-fine (bracket.Types []) (l ∷ ls) = fine-give (type.App [] (l ∷ ls))
bracket-type-fine (bracket.Types (x ∷ [])) [] = fine-give x
bracket-type-fine (bracket.Types (x ∷ [])) (l ∷ ls) = fine-give (type.App (x ∷ []) (l ∷ ls))
bracket-type-fine (bracket.Types (x ∷ y ∷ xs)) [] = fine-refused _
bracket-type-fine (bracket.Types (x ∷ y ∷ xs)) (l ∷ ls) = fine-give (type.App (x ∷ y ∷ xs) (l ∷ ls))

abbrev pub InnerFine : Inner → Type 0
InnerFine None = Unit {0}
InnerFine (Some p) = Fine p

inside-fine : (i : Inner) → InnerFine i → Fine (λ us. inside i (λ p. p) us (rest_of us))
inside-fine None h = fine-refused _
inside-fine (Some p) h = fine-skip p h

module _ (inner : Inner) (fine : InnerFine inner) where
  tatom-by-fine : (f : Front) → Fine (λ us. tatom_by inner us f)
  tatom-by-fine (front.TyVar v p) = fine-skip (λ us. longs_at us >>= λ ls. Ok (named_type (type.Var v p) ls.0, ls.1)) (fine-map longs_at (λ ls. named_type (type.Var v p) ls) longs-fine)
  tatom-by-fine front.Named = fine-then long_at (λ l us. longs_at us >>= λ ls. Ok (type.App [] (l ∷ ls.0), ls.1)) fine-long (λ l. fine-map longs_at (λ ls. type.App [] (l ∷ ls)) longs-fine)
  tatom-by-fine front.Round = fine-then (λ us. inside inner (λ p. p) us (rest_of us)) (λ b us. longs_at us >>= λ ls. bracket_type ls.1 b ls.0) (inside-fine inner fine) (λ b. fine-then longs_at (λ ls us. bracket_type us b ls) longs-fine (λ ls. bracket-type-fine b ls))
  tatom-by-fine f = fine-refused _

  pub tatom-fine : Fine (tatom inner)
  tatom-fine = fine-front (tatom_by inner) tatom-by-fine

  pub product-fine : Fine (product inner)
  product-fine = fine-map (separated (after mark.Star) (tatom inner)) (λ xs. product_type xs) (fine-separated mark.Star (tatom inner) tatom-fine)

  one-fine : (x : TypeExp) → Fine (λ us. one_from inner (x, us))
  one-fine x = fine-map (repeated (after mark.Star) (tatom inner)) (λ xs. types.One (product_type (x ∷ xs))) (fine-signs mark.Star (tatom inner) tatom-fine)

  from-type : (b : Bracket) (ls : List Long) → Fine (λ us. bracket_type us b ls >>= one_from inner)
  from-type b ls = fine-then (λ us. bracket_type us b ls) (λ x us. one_from inner (x, us)) (bracket-type-fine b ls) one-fine

  seq-from-fine : (b : Bracket) (ls : List Long) → Fine (λ us. tseq_from inner us b ls)
  seq-from-fine (bracket.Sig x) ls = from-type (bracket.Sig x) ls
  seq-from-fine (bracket.Types []) [] = fine-refused _
  seq-from-fine (bracket.Types []) (l ∷ ls) = from-type (bracket.Types []) (l ∷ ls)
  seq-from-fine (bracket.Types (x ∷ [])) [] = from-type (bracket.Types (x ∷ [])) []
  seq-from-fine (bracket.Types (x ∷ [])) (l ∷ ls) = from-type (bracket.Types (x ∷ [])) (l ∷ ls)
  seq-from-fine (bracket.Types (x ∷ y ∷ xs)) [] = fine-give (types.Bare (x ∷ y ∷ xs))
  seq-from-fine (bracket.Types (x ∷ y ∷ xs)) (l ∷ ls) = from-type (bracket.Types (x ∷ y ∷ xs)) (l ∷ ls)

  behind-fine : (p : Parser Bracket) → Fine p → Fine (tseq_inside inner p)
  behind-fine p h = fine-by (after mark.CloseRound) (λ us o. elim o [ None ↦ p us >>= λ b. longs_at b.1 >>= λ ls. tseq_from inner ls.1 b.0 ls.0 | Some vs ↦ Ok (types.Bare [], vs) ])
      (λ us. Ok (types.Bare [], us)) (sign-decides mark.CloseRound) (λ us vs. refl)
      (fine-then p (λ b us. longs_at us >>= λ ls. tseq_from inner ls.1 b ls.0) h (λ b. fine-then longs_at (λ ls us. tseq_from inner us b ls) longs-fine (λ ls. seq-from-fine b ls)))
      (fine-give (types.Bare []))

  seq-inside : (i : Inner) → InnerFine i → Fine (λ us. inside i (tseq_inside inner) us (rest_of us))
  seq-inside None h = fine-refused _
  seq-inside (Some p) h = fine-skip (tseq_inside inner p) (behind-fine p h)

  seq-by-fine : (f : Front) → Fine (λ us. tseq_by inner us f)
  seq-by-fine front.Round = seq-inside inner fine
  seq-by-fine f = fine-map (product inner) (λ t. types.One t) product-fine

  pub seq-fine : Fine (tseq inner)
  seq-fine = fine-front (tseq_by inner) seq-by-fine

  outputs-fine : (ins : Types) → Fine (outputs inner ins)
  outputs-fine ins = fine-map (tseq inner) (λ outs. record { inputs = types_of ins; outputs = types_of outs }) seq-fine

  pub sig-fine : Fine (signature inner)
  sig-fine = fine-then (λ us. tseq inner us >>= before (after mark.Arrow)) (outputs inner) (fine-before (after mark.Arrow) (tseq inner) (sign-decides mark.Arrow) seq-fine) outputs-fine

  from-fine : (ins : Types) → Fine (bracket_from inner ins)
  from-fine (types.Bare ts) = fine-refused _
  from-fine (types.One t) = fine-map (λ us. repeated (after mark.Comma) (product inner) us >>= before (after mark.CloseRound)) (λ ts. bracket.Types (t ∷ ts))
      (fine-before (after mark.CloseRound) (repeated (after mark.Comma) (product inner)) (sign-decides mark.CloseRound) (fine-signs mark.Comma (product inner) product-fine))

  by-fine : (ins : Types) → Fine (λ us. bracket_by inner ins us (after mark.Arrow us))
  by-fine ins = fine-by (after mark.Arrow) (bracket_by inner ins) (λ us. outputs inner ins us >>= before (after mark.CloseRound) >>= λ s. Ok (bracket.Sig s.0, s.1)) (sign-decides mark.Arrow) (λ us vs. refl) (from-fine ins)
      (fine-map (λ us. outputs inner ins us >>= before (after mark.CloseRound)) (λ s. bracket.Sig s) (fine-before (after mark.CloseRound) (outputs inner ins) (sign-decides mark.CloseRound) (outputs-fine ins)))

  pub in-bracket-fine : Fine (in_bracket inner)
  in-bracket-fine = fine-then (tseq inner) (λ ins us. bracket_by inner ins us (after mark.Arrow us)) seq-fine by-fine

pub bracket-fine : (n : ℕ) → Fine (bracket_at n)
bracket-fine zero = fine-is (bracket_at zero) (in_bracket None) (bracket_level zero) (in-bracket-fine None tt)
bracket-fine (suc n) = fine-is (bracket_at (suc n)) (in_bracket (Some (bracket_at n))) (bracket_level (suc n)) (in-bracket-fine (Some (bracket_at n)) (bracket-fine n))

pub inner-fine : (n : ℕ) → InnerFine (inner_bracket n)
inner-fine zero = tt
inner-fine (suc n) = bracket-fine n
