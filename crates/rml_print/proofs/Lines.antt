-- What is written is the definition of lines and their blanks.
use Rattle.std.proofs.Common.{◌≡◌, ℕ, List, [], ◌∷◌, ◌++◌, replicate, Some, None, refl, ap, sym, ◌∙◌}
use mathlib.Core.List.{append_assoc, append-nil}
use Rattle.rml_syntax.specs.declared.token.Token.{Token}
use Rattle.rml_print.specs.Spelling.{spelling}
use Rattle.rml_print.specs.Lines.{Line, gap_before, spaced, spaced_after, line_bytes, lines_bytes}
use Rattle.rml_print.specs.Written.{Written, with_token, with_tokens, begun, ended, with_line, with_lines}

abbrev pub empty : List (List ℕ) → Written
empty names = record { names = names; out = []; last = None }

with_token-out : (w : Written) (t : Token) → (with_token w t).out ≡ (w.out ++ gap_before w.last t) ++ spelling w.names t
unfolding with_token
with_token-out w t = refl

with_token-names : (w : Written) (t : Token) → (with_token w t).names ≡ w.names
unfolding with_token
with_token-names w t = refl

with_token-last : (w : Written) (t : Token) → (with_token w t).last ≡ Some t
unfolding with_token
with_token-last w t = refl

tokens-names : (ts : List Token) (w : Written) → (with_tokens w ts).names ≡ w.names
tokens-names [] w = refl
tokens-names (t ∷ ts) w = tokens-names ts (with_token w t) ∙ with_token-names w t

tokens-out : (ts : List Token) (w : Written) → (with_tokens w ts).out ≡ w.out ++ spaced_after w.names w.last ts
tokens-out [] w = sym (append-nil w.out)
tokens-out (t ∷ ts) w = tokens-out ts (with_token w t)
    ∙ rw (with_token-out w t, with_token-names w t, with_token-last w t)
    (append_assoc (w.out ++ gap_before w.last t) (spelling w.names t) (spaced_after w.names (Some t) ts)
    ∙ append_assoc w.out (gap_before w.last t) (spelling w.names t ++ spaced_after w.names (Some t) ts)
    ∙ ap (λ xs. w.out ++ xs) (sym (append_assoc (gap_before w.last t) (spelling w.names t) (spaced_after w.names (Some t) ts))))

begun-out : (n : ℕ) (w : Written) → (begun n w).out ≡ w.out ++ replicate n 32
unfolding begun
begun-out n w = refl

begun-names : (n : ℕ) (w : Written) → (begun n w).names ≡ w.names
unfolding begun
begun-names n w = refl

begun-last : (n : ℕ) (w : Written) → (begun n w).last ≡ None
unfolding begun
begun-last n w = refl

ended-out : (w : Written) → (ended w).out ≡ w.out ++ 10 ∷ []
unfolding ended
ended-out w = refl

ended-names : (w : Written) → (ended w).names ≡ w.names
unfolding ended
ended-names w = refl

line-out : (l : Line) (w : Written) → (with_line w l).out ≡ w.out ++ line_bytes w.names l
line-out l w = ended-out (with_tokens (begun l.indent w) l.tokens)
    ∙ rw (tokens-out l.tokens (begun l.indent w), begun-out l.indent w, begun-names l.indent w, begun-last l.indent w)
    (append_assoc (w.out ++ replicate l.indent 32) (spaced w.names l.tokens) (10 ∷ [])
    ∙ append_assoc w.out (replicate l.indent 32) (spaced w.names l.tokens ++ 10 ∷ [])
    ∙ ap (λ xs. w.out ++ xs) (sym (append_assoc (replicate l.indent 32) (spaced w.names l.tokens) (10 ∷ []))))

line-names : (l : Line) (w : Written) → (with_line w l).names ≡ w.names
line-names l w = ended-names (with_tokens (begun l.indent w) l.tokens) ∙ tokens-names l.tokens (begun l.indent w) ∙ begun-names l.indent w

lines-out : (ls : List Line) (w : Written) → (with_lines w ls).out ≡ w.out ++ lines_bytes w.names ls
lines-out [] w = sym (append-nil w.out)
lines-out (l ∷ ls) w = lines-out ls (with_line w l)
    ∙ rw (line-out l w, line-names l w) (append_assoc w.out (line_bytes w.names l) (lines_bytes w.names ls))

-- tokens on an empty page
pub tokens-written : (names : List (List ℕ)) (ts : List Token) (start w : Written) (bytes : List ℕ) → start ≡ empty names → w ≡ with_tokens start ts → bytes ≡ w.out → bytes ≡ spaced names ts
tokens-written names ts start w bytes p q e = e ∙ rw (q, p) (tokens-out ts (empty names))

-- lines on an empty page
pub lines-written : (names : List (List ℕ)) (ls : List Line) (start w : Written) (bytes : List ℕ) → start ≡ empty names → w ≡ with_lines start ls → bytes ≡ w.out → bytes ≡ lines_bytes names ls
lines-written names ls start w bytes p q e = e ∙ rw (q, p) (lines-out ls (empty names))
