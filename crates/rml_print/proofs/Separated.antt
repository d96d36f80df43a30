-- How a loop writes items with a separator between them.
use Rattle.std.proofs.Common.{◌≡◌, ℕ, zero, suc, ◌+◌, ◌<◌, ◌≤◌, List, [], ◌∷◌, ◌++◌, map, length, get_or, drop, refl, ap, sym, ◌∙◌, add-one, drop-cons}
use Rattle.std.proofs.lemmas.Grind.{fold-append}
use Rattle.std.proofs.lemmas.List.{drop_all}
use Rattle.rml_syntax.specs.declared.token.Token.{Token}
use Rattle.rml_syntax.specs.declared.token.Token.TheVariants as token
use Rattle.rml_syntax.specs.declared.token.Mark.{Mark}
use Rattle.rml_print.specs.declared.seats.Seat.{Seat}
use Rattle.rml_print.specs.Parts.{Printed, led, listed, separated, separator_before}
use Rattle.rml_print.specs.Written.{Written, with_token, with_tokens}

-- what is left to write from the item of a number on
unfoldable pub remaining : Token → ℕ → List (List Token) → List Token
remaining s zero = separated s
remaining s (suc n) = led s

pub remaining-all : (s : Token) (ts : List (List Token)) → remaining s 0 ts ≡ separated s ts
unfolding remaining
remaining-all s ts = refl

pub remaining-none : (s : Token) (i : ℕ) → remaining s i [] ≡ []
unfolding remaining
remaining-none s zero = refl
remaining-none s (suc n) = refl

remaining-next : (s : Token) (i : ℕ) (t : List Token) (ts : List (List Token)) → remaining s i (t ∷ ts) ≡ separator_before s i ++ (t ++ remaining s (suc i) ts)
unfolding remaining separator_before
remaining-next s zero t ts = refl
remaining-next s (suc n) t ts = refl

pub written-next : (w : Written) (s : Token) (i : ℕ) (t : List Token) (ts : List (List Token))
    → with_tokens w (remaining s i (t ∷ ts)) ≡ with_tokens (with_tokens (with_tokens w (separator_before s i)) t) (remaining s (suc i) ts)
written-next w s i t ts = rw (remaining-next s i t ts, fold-append with_token w (separator_before s i) (t ++ remaining s (suc i) ts), fold-append with_token (with_tokens w (separator_before s i)) t (remaining s (suc i) ts)) refl

-- how far a loop has come: what was to be written is what was written, and then the rest
pub record Goes (start : Written) (whole : List Token) (now : Written) (rest : List Token) : Type 0 where
  pub same : with_tokens start whole ≡ with_tokens now rest

-- the next turn of a loop over xs, each of which prints as f says: first the separator, and then the item
pub loop-turn : {A : Type 0} {start w v u : Written} {whole : List Token} (s : Token) (f : A → List Token) (xs : List A) (i : ℕ) (x d : A)
    → Goes start whole w (remaining s i (map f (drop i xs)))
    → i < length xs → x ≡ get_or xs i d → v ≡ with_tokens w (separator_before s i) → u ≡ with_tokens v (f x)
    → Goes start whole u (remaining s (i + 1) (map f (drop (i + 1) xs)))
loop-turn {w = w} {v = v} {u = u} s f xs i x d so_far h e p q =
    let step : with_tokens w (remaining s i (map f (drop i xs))) ≡ with_tokens (with_tokens (with_tokens w (separator_before s i)) (f x)) (remaining s (suc i) (map f (drop (suc i) xs)))
    = rw (drop-cons xs i d, ← e) (written-next w s i (f x) (map f (drop (suc i) xs)))
    in record { same = so_far.same ∙ rw (add-one, q, p) step }

-- the end of the loop
pub loop-end : {A : Type 0} {start w : Written} {whole : List Token} (s : Token) (f : A → List Token) (xs : List A) (i : ℕ)
    → Goes start whole w (remaining s i (map f (drop i xs))) → length xs ≤ i → w ≡ with_tokens start whole
loop-end {w = w} s f xs i so_far h =
    let nothing : remaining s i (map f (drop i xs)) ≡ [] = rw (drop_all i xs h) (remaining-none s i)
    in sym (so_far.same ∙ ap (with_tokens w) nothing)

-- its beginning
pub loop-begin : (s : Token) (ts : List (List Token)) (w : Written) → Goes w (separated s ts) w (remaining s 0 ts)
loop-begin s ts w = record { same = ap (with_tokens w) (sym (remaining-all s ts)) }

-- trees that all stand in one seat
pub seats : {A : Type 0} (f : A → Printed) (seat : Seat) (xs : List A) → map (λ p. p seat) (map f xs) ≡ map (λ t. f t seat) xs
seats f seat [] = refl
seats f seat (x ∷ xs) = ap (λ ts. f x seat ∷ ts) (seats f seat xs)

-- the beginning of a loop over trees in one seat
pub loop-start : {A : Type 0} (m : Mark) (f : A → Printed) (seat : Seat) (xs : List A) (w : Written)
    → Goes w (listed m seat (map f xs)) w (remaining (token.Sign m) 0 (map (λ t. f t seat) xs))
loop-start m f seat xs w = record { same = ap (with_tokens w) (ap (separated (token.Sign m)) (seats f seat xs) ∙ sym (remaining-all (token.Sign m) (map (λ t. f t seat) xs))) }
