-- Names can be finished; and readings that begin with a name or take nothing.
use Rattle.std.proofs.Common.{◌≡◌, ℕ, zero, suc, ◌<◌, List, [], ◌∷◌, length, refl, ap, ◌∙◌, arith, Option, Some, None, Ok}
use Rattle.rml_base.specs.declared.place.Place.{Place}
use Rattle.rml_syntax.specs.declared.token.Spot.{Spot}
use Rattle.rml_syntax.specs.declared.token.Token.{Token}
use Rattle.rml_syntax.specs.declared.token.Token.TheVariants as token
use Rattle.rml_syntax.specs.declared.token.Key.{Key}
use Rattle.rml_syntax.specs.declared.token.Key.TheVariants as key
use Rattle.rml_syntax.specs.declared.token.Mark.{Mark}
use Rattle.rml_syntax.specs.declared.token.Mark.TheVariants as mark
use Rattle.rml_syntax.specs.declared.rules.Long.{Long}
use Rattle.rml_grammar.specs.declared.fault.ParseKind.TheVariants as kind
use Rattle.rml_grammar.specs.declared.front.Front.TheVariants as front
use Rattle.rml_grammar.specs.Tokens.{named, word, sign, after, front_of}
use Rattle.rml_grammar.specs.Reading.{◌>>=◌, Parser, follows, name_at, qualified, long_at}
use Rattle.rml_grammar.specs.Trees.{short, within}
use Rattle.rml_grammar.specs.Types.{longs_at, name_next}
use Rattle.rml_grammar.proofs.Holds.{Holds, holds-map, long-sound}
use Rattle.rml_grammar.proofs.ShortTypes.{shorter-long}
use Rattle.rml_grammar.proofs.Fine.{fine-name, sign-decides}
use Rattle.rml_grammar.proofs.FineTypes.{name-decides}
use Rattle.rml_grammar.proofs.Goes.{Anything, nothing, Wide, narrow, Goes, Next, TakenAs, Branch, behind, at, wide-all, bind-ok, ok-is, goes-give, goes-map, goes-then, goes-after, goes-first, goes-by, goes-repeated, lacks-quiet, never-sign, next-give, next-map, refuses}

-- what is read where nothing of it stands
pub record Quiet (S : List Spot → Type 0) {A : Type 0} (p : Parser A) : Type 0 where
  pub gives : A
  pub reads : (z : List Spot) → S z → p z ≡ Ok (gives, z)

-- what one name makes
pub record ByName (S : List Spot → Type 0) {A : Type 0} (p : Parser A) : Type 0 where
  pub gives : A
  pub reads : (z : List Spot) → S z → p (named 0 at ∷ z) ≡ Ok (gives, z)

pub quiet-next : (S : List Spot → Type 0) {A : Type 0} (p : Parser A) → Quiet S p → Next S S p
quiet-next S p q = record { more = []; gives = q.gives; allowed = λ z s. s; reads = q.reads }

pub quiet-anywhere : (R S : List Spot → Type 0) {A : Type 0} (p : Parser A) → ((z : List Spot) → S z → R z) → Quiet S p → Next R S p
quiet-anywhere R S p h q = record { more = []; gives = q.gives; allowed = h; reads = q.reads }

pub named-next : (S : List Spot → Type 0) {A : Type 0} (p : Parser A) → ByName S p → Next Anything S p
named-next S p q = record { more = named 0 at ∷ []; gives = q.gives; allowed = λ z s. tt; reads = q.reads }

pub quiet-then : (S : List Spot → Type 0) {A B : Type 0} (p : Parser A) (f : A → Parser B) → Quiet S p → ((a : A) → Quiet S (f a)) → Quiet S (λ us. p us >>= λ y. f y.0 y.1)
quiet-then S p f q next = let n = next q.gives in record { gives = n.gives; reads = λ z s. (rw (q.reads z s) (n.reads z s)) }

pub quiet-map : (S : List Spot → Type 0) {A B : Type 0} (p : Parser A) (f : A → B) → Quiet S p → Quiet S (λ us. p us >>= λ y. Ok (f y.0, y.1))
quiet-map S p f q = record { gives = f q.gives; reads = λ z s. (rw (q.reads z s) refl) }

pub named-then : (S : List Spot → Type 0) {A B : Type 0} (p : Parser A) (f : A → Parser B) → ByName S p → ((a : A) → Quiet S (f a)) → ByName S (λ us. p us >>= λ y. f y.0 y.1)
named-then S p f q next = let n = next q.gives in record { gives = n.gives; reads = λ z s. (rw (q.reads z s) (n.reads z s)) }

pub named-map : (S : List Spot → Type 0) {A B : Type 0} (p : Parser A) (f : A → B) → ByName S p → ByName S (λ us. p us >>= λ y. Ok (f y.0, y.1))
named-map S p f q = record { gives = f q.gives; reads = λ z s. (rw (q.reads z s) refl) }

pub quiet-fewer : (S T : List Spot → Type 0) {A : Type 0} (p : Parser A) → ((z : List Spot) → T z → S z) → Quiet S p → Quiet T p
quiet-fewer S T p h q = record { gives = q.gives; reads = λ z t. (q.reads z (h z t)) }

pub named-fewer : (S T : List Spot → Type 0) {A : Type 0} (p : Parser A) → ((z : List Spot) → T z → S z) → ByName S p → ByName T p
named-fewer S T p h q = record { gives = q.gives; reads = λ z t. (q.reads z (h z t)) }

-- a token that is a name
not-word : (k : Key) (p : Place) → front_of (word k p ∷ []) ≡ front.Named → ⊥
not-word key.KLet p e = cc e
not-word key.KNot p e = cc e
not-word k p e = cc e

not-sign : (m : Mark) (p : Place) → front_of (sign m p ∷ []) ≡ front.Named → ⊥
not-sign mark.OpenRound p e = cc e
not-sign mark.OpenSquare p e = cc e
not-sign mark.Wild p e = cc e
not-sign m p e = cc e

name-in-front : (t : Token) (p : Place) → front_of (record { token = t; place = p } ∷ []) ≡ front.Named → (n : ℕ) × (t ≡ token.Name n)
name-in-front (token.Name n) p e = (n, refl)
name-in-front (token.TyVar n) p e = absurd (cc e)
name-in-front (token.Lit l) p e = absurd (cc e)
name-in-front (token.Dashes n) p e = absurd (cc e)
name-in-front (token.Word k) p e = absurd (not-word k p e)
name-in-front (token.Sign m) p e = absurd (not-sign m p e)

pub is-name : (y : Spot) → front_of (y ∷ []) ≡ front.Named → (n : ℕ) × (y ≡ named n y.place)
is-name y e = let i = name-in-front y.token y.place e in (i.0, ap (λ (t : Token). record { token = t; place = y.place }) i.1)

-- names
name-first : (S : List Spot → Type 0) (t : Token) (p : Place) → Branch S name_at (record { token = t; place = p })
name-first S (token.Name n) p = behind (λ us. Ok ((n, p), us)) (goes-give S (n, p)) (next-give Anything S (n, p) (λ z s. tt)) (λ us. refl)
name-first S (token.Word k) p = refuses S name_at (record { token = token.Word k; place = p }) kind.Unexpected (λ us. refl)
name-first S (token.TyVar n) p = refuses S name_at (record { token = token.TyVar n; place = p }) kind.Unexpected (λ us. refl)
name-first S (token.Lit l) p = refuses S name_at (record { token = token.Lit l; place = p }) kind.Unexpected (λ us. refl)
name-first S (token.Sign m) p = refuses S name_at (record { token = token.Sign m; place = p }) kind.Unexpected (λ us. refl)
name-first S (token.Dashes n) p = refuses S name_at (record { token = token.Dashes n; place = p }) kind.Unexpected (λ us. refl)

pub goes-name : (S : List Spot → Type 0) → Goes S name_at
goes-name S = goes-first S name_at fine-name (λ a h z s. absurd (cc h)) (λ y. name-first S y.token y.place)

pub by-name : (S : List Spot → Type 0) → ByName S name_at
by-name S = record { gives = (0, at); reads = λ z s. refl }

pub wide-dot : (z : List Spot) → Wide z → after mark.Dot z ≡ None
wide-dot z w = wide-all (λ us. after mark.Dot us ≡ None) refl (λ p us. refl) (λ p us. refl) (λ n p us. refl) (λ p us. refl) (λ p us. refl) (λ p us. refl) z w

module _ (a : ℕ × Place) where
  abbrev behind-name : Parser Long
  behind-name us = qualified a us (after mark.Dot us)

  pub goes-qualified : Goes Wide behind-name
  goes-qualified = goes-by Wide (after mark.Dot) (qualified a) (λ us. name_at us >>= λ n. Ok (within a n.0.0, n.1)) (sign-decides mark.Dot) (λ us vs. refl) (goes-give Wide (short a)) (goes-map Wide name_at (λ n. within a n.0) (goes-name Wide))
      (next-map Anything Wide name_at (λ n. within a n.0) (named-next Wide name_at (by-name Wide))) (lacks-quiet Wide (after mark.Dot) (qualified a) (goes-give Wide (short a)) wide-dot)
      (λ y us e. never-sign {A = Long} mark.Dot (λ vs. name_at vs >>= λ n. Ok (within a n.0.0, n.1)) y us e)

  pub quiet-qualified : Quiet Wide behind-name
  quiet-qualified = record { gives = short a; reads = λ z s. (rw (wide-dot z s) refl) }

pub long-behind : (n : ℕ) (p : Place) (us : List Spot) → long_at (named n p ∷ us) ≡ qualified (n, p) us (after mark.Dot us)
unfolding long_at
long-behind n p us = refl

pub goes-long : Goes Wide long_at
unfolding long_at
goes-long = goes-then Anything Wide name_at (λ a us. qualified a us (after mark.Dot us)) (goes-name Anything) goes-qualified (λ a. quiet-anywhere Anything Wide (behind-name a) (λ z s. tt) (quiet-qualified a)) (λ a b rest e z s. tt)

dot-none : (z : List Spot) → Wide z → qualified (0, at) z (after mark.Dot z) ≡ Ok (short (0, at), z)
dot-none z w = rw (wide-dot z w) refl

long-one : (z : List Spot) → Wide z → long_at (named 0 at ∷ z) ≡ Ok (short (0, at), z)
long-one z w = long-behind 0 at z ∙ dot-none z w

pub named-long : ByName Wide long_at
named-long = record { gives = short (0, at); reads = long-one }

-- names one after another
pub wide-name : (z : List Spot) → Wide z → name_next z ≡ None
wide-name z w = wide-all (λ us. name_next us ≡ None) refl (λ p us. refl) (λ p us. refl) (λ n p us. refl) (λ p us. refl) (λ p us. refl) (λ p us. refl) z w

long-strict : (y : Spot) (us : List Spot) → name_next (y ∷ us) ≡ Some (y ∷ us) → Holds (λ z. length z.1 < suc (length us)) (long_at (y ∷ us))
long-strict y us e = holds-map _ (λ z. length z.1 < suc (length us)) (long_at (y ∷ us)) (long-sound (y ∷ us)) (λ z h. shorter-long h)

pub goes-longs : Goes Wide longs_at
goes-longs = goes-repeated Wide name_next long_at name-decides goes-long (named-next Wide long_at named-long) wide-name long-strict

none-follows : (k : ℕ) (us : List Spot) → name_next us ≡ None → follows name_next long_at k us ≡ Ok ([], us)
none-follows zero us e = refl
none-follows (suc k) us e = rw (e, follows) refl

pub quiet-longs : Quiet Wide longs_at
quiet-longs = record { gives = []; reads = λ z s. none-follows (length z) z (wide-name z s) }

-- none were read of nothing
none-by : (k : ℕ) (us z : List Spot) (o : Option (List Spot)) → name_next us ≡ o → follows name_next long_at (suc k) us ≡ Ok ([], z) → us ≡ z
none-by k us z None h e = let f : Ok ([], us) ≡ Ok ([], z) = rw (h, follows) at e in ap (λ (w : List Long × List Spot). w.1) (ok-is ([], us) ([], z) f)
none-by k us z (Some vs) h e =
    let f : (long_at vs >>= λ x. follows name_next long_at k x.1 >>= λ xs. Ok (x.0 ∷ xs.0, xs.1)) ≡ Ok ([], z) = rw (h, follows) at e in
    let i = bind-ok (long_at vs) (λ x. follows name_next long_at k x.1 >>= λ xs. Ok (x.0 ∷ xs.0, xs.1)) ([], z) f in
    let l = bind-ok (follows name_next long_at k i.0.1) (λ xs. Ok (i.0.0 ∷ xs.0, xs.1)) ([], z) i.2 in
    let q : i.0.0 ∷ l.0.0 ≡ [] = ap (λ (w : List Long × List Spot). w.0) (ok-is (i.0.0 ∷ l.0.0, l.0.1) ([], z) l.2) in
    absurd (cc q)

none-read : (k : ℕ) (us z : List Spot) → follows name_next long_at k us ≡ Ok ([], z) → us ≡ z
none-read zero us z e = ap (λ (w : List Long × List Spot). w.1) (ok-is ([], us) ([], z) e)
none-read (suc k) us z e = none-by k us z (name_next us) refl e

-- one, before the end
pub one-long : (z : List Spot) → Wide z → longs_at (named 0 at ∷ z) ≡ Ok (short (0, at) ∷ [], z)
one-long z w = rw (long-one z w, none-follows (length z) z (wide-name z w)) refl

-- names, and what these make, where some may be wanted
module _ {B : Type 0} (f : List Long → Parser B) (second : (ls : List Long) → Goes Wide (f ls)) (next : (l : Long) (ls : List Long) → Quiet Wide (f (l ∷ ls))) where
  next-taken : (ls : List Long) → TakenAs Wide longs_at ls → Next Wide Wide (f ls)
  next-taken [] t =
      let h = t [] (narrow nothing) in
      let same = none-read (length h.0) h.0 [] h.1 in
      let n = ap length same in
      let lt = h.2 in
      absurd (omega arith)
  next-taken (l ∷ ls) t = quiet-next Wide (f (l ∷ ls)) (next l ls)

  pub goes-longs-then : Goes Wide (λ us. longs_at us >>= λ ls. f ls.0 ls.1)
  goes-longs-then = goes-after Wide Wide longs_at f goes-longs second next-taken (λ a b rest e z s. s)

  pub named-longs-then : ByName Wide (λ us. longs_at us >>= λ ls. f ls.0 ls.1)
  named-longs-then = let n = next (short (0, at)) [] in record { gives = n.gives; reads = λ z s. (rw (one-long z s) (n.reads z s)) }
