-- One status is due for a line, where it is told what the files hold or where no text is read.
use Rattle.std.proofs.Common.{◌≡◌, ℕ, ◌<◌, ◌≤◌, true, false, List, [], ◌∷◌, length, Some, None, refl, sym, ap, subst, ◌∙◌, arith}
use Rattle.std.specs.Prelude.{flat_map}
use Rattle.std.specs.declared.option.Option.{Option}
use Rattle.rml_base.specs.declared.place.Place.{Place}
use Rattle.rml_io.specs.Files.{Held}
use Rattle.rml_lex.specs.Character.{unescaped}
use Rattle.rml_lex.specs.Places.{start}
use Rattle.rml_syntax.specs.declared.token.Spot.{Spot}
use Rattle.rml_syntax.specs.declared.texts.Text.{Text}
use Rattle.rml_print.specs.Listing.{listing}
use Rattle.rml_print.specs.Printed.{printed_text}
use Rattle.rml_words.specs.Forms.{Asks, Check, ShowTokens, ShowTree, Show, ShowC, Run, Crun, Make}
use Rattle.rml_stages.specs.Reading.{IsRead}
use Rattle.rml_stages.specs.Shown.{ShowsTokens, ShowsTree}
use Rattle.rml_stages.specs.declared.refusal.Kind.{Kind}
use Rattle.rml_stages.specs.declared.refusal.Refusal.{Refusal}
use Rattle.rml_stages.specs.declared.refusal.Refusal.TheVariants as refusal
use Rattle.rml_stages.specs.declared.refusal.Which.{Which}
use Rattle.rml_stages.specs.declared.refusal.Which.TheVariants as which
use Rattle.rml_stages.proofs.Callers.{not-both-of-all, one-first-refusal, one-text, same-spots}
use Rattle.rml_top.specs.Due.{AreAccepted, Outputs, PrintsFirst, AreRefused, IsDue, IsMissing, usage, unbuilt_command, many_texts, many_arguments, long_text, long_texts, limit, syntax_fault, done, unbuilt}
use Rattle.rml_top.specs.Line.{Reads, takes_texts, text_names, arguments_of}
use Rattle.rml_top.specs.FirstForm.{IsFirstForm}
use Rattle.rml_top.specs.Sources.{AreTexts, IsReached, IsTooLong, PassTotal}
use Rattle.rml_top.specs.Text.{IsText}
use Rattle.rml_top.specs.declared.status.Status.{Status}
use Rattle.rml_top.specs.declared.status.Status.TheVariants.{Done, Usage, Syntax, Limit, Unbuilt}
use Rattle.rml_top.proofs.Alone.{only-text}
use Rattle.rml_top.proofs.FileWalk.{End, Missing, Long, Over, Read, walk, texts-walk, long-walk, total-walk, missing-walk}
use Rattle.rml_top.proofs.Pieces.{same-tokens}
use Rattle.rml_top.proofs.Printing.{same-literals}

-- ---- what accepted texts give

one-printed : (bytes a b : List ℕ) → IsText bytes a → IsText bytes b → a ≡ b
one-printed bytes a b h k =
    let tokens : h.tokens ≡ k.tokens = same-tokens bytes h.tokens k.tokens h.has_tokens k.has_tokens in
    let literals = same-literals k.tokens h.literals k.literals (subst (λ (ts : List (List ℕ)). IsFirstForm ts h.literals) tokens h.form) k.form in
    h.prints ∙ ap (λ (ls : List (List ℕ)). flat_map unescaped ls) literals ∙ sym k.prints

one-listing : (bytes a b : List ℕ) → ShowsTokens bytes a → ShowsTokens bytes b → a ≡ b
one-listing bytes a b h k =
    let same = same-spots 0 bytes [] h.spots k.spots h.names k.names h.read.spelled k.read.spelled in
    h.listed ∙ ap (λ (ss : List Spot). listing h.names ss) same.0 ∙ ap (λ (ns : List (List ℕ)). listing ns k.spots) same.1 ∙ sym k.listed

one-tree-text : (bytes a b : List ℕ) → ShowsTree bytes a → ShowsTree bytes b → a ≡ b
one-tree-text bytes a b h k =
    let same = one-text 0 bytes [] h.tree k.tree h.names k.names h.read k.read in
    h.printed ∙ ap (λ (t : Text). printed_text h.names t) same.0 ∙ ap (λ (ns : List (List ℕ)). printed_text ns k.tree) same.1 ∙ sym k.printed

one-output : (words : List (List ℕ)) (asks : Asks) (texts : List (List ℕ)) (a b : List ℕ) → Outputs words asks texts a → Outputs words asks texts b → a ≡ b
one-output words (ShowTokens file) texts a b h k = one-listing k.0 a b (subst (λ (x : List ℕ). ShowsTokens x a) (only-text texts h.0 k.0 h.1 k.1) h.2) k.2
one-output words (ShowTree file) texts a b h k = one-tree-text k.0 a b (subst (λ (x : List ℕ). ShowsTree x a) (only-text texts h.0 k.0 h.1 k.1) h.2) k.2
one-output words (Run cells steps files arguments) texts a b h k =
    let p : PrintsFirst texts a = h.2 in
    let q : PrintsFirst texts b = k.2 in
    one-printed q.0 a b (subst (λ (x : List ℕ). IsText x a) (only-text texts p.0 q.0 p.1 q.1) p.2) q.2
one-output words (Check files) texts a b h k = absurd h
one-output words (Show stage files) texts a b h k = absurd h
one-output words (ShowC cells files) texts a b h k = absurd h
one-output words (Crun steps file arguments) texts a b h k = absurd h
one-output words (Make relations) texts a b h k = absurd h

accepted-alone : (texts : List (List ℕ)) (bytes : List ℕ) (tree : Text) (names : List (List ℕ)) → texts ≡ bytes ∷ [] → IsRead 0 bytes [] tree names → AreAccepted texts
accepted-alone texts bytes tree names e r = subst (λ (ts : List (List ℕ)). AreAccepted ts) (sym e) (tree ∷ [], names, (names, r, refl))

accepted : (words : List (List ℕ)) (asks : Asks) (texts : List (List ℕ)) (out : List ℕ) → Outputs words asks texts out → AreAccepted texts
accepted words (ShowTokens file) texts out h = accepted-alone texts h.0 h.2.tree h.2.names h.1 (h.2.spots, h.2.read)
accepted words (ShowTree file) texts out h = accepted-alone texts h.0 h.2.tree h.2.names h.1 h.2.read
accepted words (Run cells steps files arguments) texts out h = h.1
accepted words (Check files) texts out h = absurd h
accepted words (Show stage files) texts out h = absurd h
accepted words (ShowC cells files) texts out h = absurd h
accepted words (Crun steps file arguments) texts out h = absurd h
accepted words (Make relations) texts out h = absurd h

not-refused : (texts : List (List ℕ)) (why : Refusal) → AreAccepted texts → AreRefused texts why → ⊥
not-refused texts why a r = not-both-of-all 0 texts [] a.1 a.0 why a.2 r

-- ---- the ends of a line whose texts are read

data TextEnd : List (List ℕ) → Asks → List (List ℕ) → Status → List ℕ → Type 0 where
  a_limit : {words : List (List ℕ)} {asks : Asks} {texts : List (List ℕ)} (place : Option Place) (passed : Which) → AreRefused texts (refusal.Limit place passed) → TextEnd words asks texts (Limit place passed) []
  a_fault : {words : List (List ℕ)} {asks : Asks} {texts : List (List ℕ)} (place : Place) (kind : Kind) → AreRefused texts (refusal.Syntax place kind) → TextEnd words asks texts (Syntax place kind) []
  an_output : {words : List (List ℕ)} {asks : Asks} {texts : List (List ℕ)} {out : List ℕ} → Outputs words asks texts out → TextEnd words asks texts (Done None) out
  no_output : {words : List (List ℕ)} {asks : Asks} {texts : List (List ℕ)} → AreAccepted texts → ((out : List ℕ) → ¬ Outputs words asks texts out) → TextEnd words asks texts Unbuilt []

abbrev Same : Status → List ℕ → Status → List ℕ → Type 0
Same s t s' t' = (s ≡ s') × (t ≡ t')

limits-same : (p q : Option Place) (j k : Which) → ◌≡◌ {A = Refusal} (refusal.Limit p j) (refusal.Limit q k) → Same (Limit p j) [] (Limit q k) []
limits-same p q j k e = (ap (λ (r : Refusal). elim r [ refusal.Limit x y ↦ Limit x y | refusal.Syntax x y ↦ Unbuilt | refusal.Memory ↦ Unbuilt ]) e, refl)

faults-same : (p q : Place) (j k : Kind) → ◌≡◌ {A = Refusal} (refusal.Syntax p j) (refusal.Syntax q k) → Same (Syntax p j) [] (Syntax q k) []
faults-same p q j k e = (ap (λ (r : Refusal). elim r [ refusal.Limit x y ↦ Unbuilt | refusal.Syntax x y ↦ Syntax x y | refusal.Memory ↦ Unbuilt ]) e, refl)

one-text-end : (words : List (List ℕ)) (asks : Asks) (texts : List (List ℕ)) (s s' : Status) (t t' : List ℕ) → TextEnd words asks texts s t → TextEnd words asks texts s' t' → Same s t s' t'
one-text-end words asks texts s s' t t' (a_limit p j r) (a_limit q k r') = limits-same p q j k (one-first-refusal 0 texts [] (refusal.Limit p j) (refusal.Limit q k) r r')
one-text-end words asks texts s s' t t' (a_limit p j r) (a_fault q k r') = absurd (let e = one-first-refusal 0 texts [] (refusal.Limit p j) (refusal.Syntax q k) r r' in cc)
one-text-end words asks texts s s' t t' (a_limit p j r) (an_output o) = absurd (not-refused texts (refusal.Limit p j) (accepted words asks texts t' o) r)
one-text-end words asks texts s s' t t' (a_limit p j r) (no_output a n) = absurd (not-refused texts (refusal.Limit p j) a r)
one-text-end words asks texts s s' t t' (a_fault p j r) (a_limit q k r') = absurd (let e = one-first-refusal 0 texts [] (refusal.Syntax p j) (refusal.Limit q k) r r' in cc)
one-text-end words asks texts s s' t t' (a_fault p j r) (a_fault q k r') = faults-same p q j k (one-first-refusal 0 texts [] (refusal.Syntax p j) (refusal.Syntax q k) r r')
one-text-end words asks texts s s' t t' (a_fault p j r) (an_output o) = absurd (not-refused texts (refusal.Syntax p j) (accepted words asks texts t' o) r)
one-text-end words asks texts s s' t t' (a_fault p j r) (no_output a n) = absurd (not-refused texts (refusal.Syntax p j) a r)
one-text-end words asks texts s s' t t' (an_output o) (a_limit q k r) = absurd (not-refused texts (refusal.Limit q k) (accepted words asks texts t o) r)
one-text-end words asks texts s s' t t' (an_output o) (a_fault q k r) = absurd (not-refused texts (refusal.Syntax q k) (accepted words asks texts t o) r)
one-text-end words asks texts s s' t t' (an_output o) (an_output o') = (refl, one-output words asks texts t t' o o')
one-text-end words asks texts s s' t t' (an_output o) (no_output a n) = absurd (n t o)
one-text-end words asks texts s s' t t' (no_output a n) (a_limit q k r) = absurd (not-refused texts (refusal.Limit q k) a r)
one-text-end words asks texts s s' t t' (no_output a n) (a_fault q k r) = absurd (not-refused texts (refusal.Syntax q k) a r)
one-text-end words asks texts s s' t t' (no_output a n) (an_output o) = absurd (n t' o)
one-text-end words asks texts s s' t t' (no_output a n) (no_output a' n') = (refl, refl)

data Later (held : Option Held) (words : List (List ℕ)) (asks : Asks) (s : Status) (t : List ℕ) : Type 0 where
  is_long : (number : ℕ) (r : IsReached held (text_names asks) number) → IsTooLong held r.name → s ≡ Limit (Some (start number)) which.Bytes → t ≡ [] → Later held words asks s t
  is_over : (number : ℕ) (r : IsReached held (text_names asks) number) → PassTotal held r.texts r.name → s ≡ Limit (Some (start number)) which.Total → t ≡ [] → Later held words asks s t
  are_read : (texts : List (List ℕ)) → AreTexts held (text_names asks) texts → TextEnd words asks texts s t → Later held words asks s t

later : (held : Option Held) (words : List (List ℕ)) (asks : Asks) (s : Status) (t : List ℕ) → Reads asks → IsDue held words (Some asks) s t → Later held words asks s t
later held words asks s t r (unbuilt_command f) = absurd (let e = r.takes in cc)
later held words asks s t r (many_texts f m) = absurd (let e = r.few_texts in omega arith)
later held words asks s t r (many_arguments f w m) = absurd (let e = r.few_arguments in omega arith)
later held words asks s t r (long_text {number = n} d q l) = is_long n q l refl refl
later held words asks s t r (long_texts {number = n} d q l) = is_over n q l refl refl
later held words asks s t r (limit {place = p} {passed = k} ts d x f) = are_read ts x (a_limit p k f)
later held words asks s t r (syntax_fault {place = p} {kind = k} ts d x f) = are_read ts x (a_fault p k f)
later held words asks s t r (done ts d x o) = are_read ts x (an_output o)
later held words asks s t r (unbuilt ts d x a n) = are_read ts x (no_output a n)

number-long : (files : Held) (names : List (List ℕ)) (a b : End) → walk files 0 0 names ≡ a → walk files 0 0 names ≡ b → a ≡ b
number-long files names a b e f = sym e ∙ f

abbrev long-at : End → ℕ
long-at (Missing k) = k
long-at (Long k) = k
long-at (Over k) = k
long-at _ = 0

abbrev read-at : End → List (List ℕ)
read-at (Read texts) = texts
read-at _ = []

one-later : (files : Held) (words : List (List ℕ)) (asks : Asks) (s s' : Status) (t t' : List ℕ) → Later (Some files) words asks s t → Later (Some files) words asks s' t' → Same s t s' t'
one-later files words asks s s' t t' (is_long n r l e f) (is_long m q k e' f') =
    let same : n ≡ m = ap long-at (number-long files (text_names asks) (Long n) (Long m) (long-walk files (text_names asks) n r l) (long-walk files (text_names asks) m q k)) in
    (e ∙ ap (λ (x : ℕ). Limit (Some (start x)) which.Bytes) same ∙ sym e', f ∙ sym f')
one-later files words asks s s' t t' (is_long n r l e f) (is_over m q k e' f') =
    absurd (let same = number-long files (text_names asks) (Long n) (Over m) (long-walk files (text_names asks) n r l) (total-walk files (text_names asks) m q k) in cc)
one-later files words asks s s' t t' (is_long n r l e f) (are_read ts x d) =
    absurd (let same = number-long files (text_names asks) (Long n) (Read ts) (long-walk files (text_names asks) n r l) (texts-walk files (text_names asks) ts x) in cc)
one-later files words asks s s' t t' (is_over n r l e f) (is_long m q k e' f') =
    absurd (let same = number-long files (text_names asks) (Over n) (Long m) (total-walk files (text_names asks) n r l) (long-walk files (text_names asks) m q k) in cc)
one-later files words asks s s' t t' (is_over n r l e f) (is_over m q k e' f') =
    let same : n ≡ m = ap long-at (number-long files (text_names asks) (Over n) (Over m) (total-walk files (text_names asks) n r l) (total-walk files (text_names asks) m q k)) in
    (e ∙ ap (λ (x : ℕ). Limit (Some (start x)) which.Total) same ∙ sym e', f ∙ sym f')
one-later files words asks s s' t t' (is_over n r l e f) (are_read ts x d) =
    absurd (let same = number-long files (text_names asks) (Over n) (Read ts) (total-walk files (text_names asks) n r l) (texts-walk files (text_names asks) ts x) in cc)
one-later files words asks s s' t t' (are_read ts x d) (is_long m q k e' f') =
    absurd (let same = number-long files (text_names asks) (Read ts) (Long m) (texts-walk files (text_names asks) ts x) (long-walk files (text_names asks) m q k) in cc)
one-later files words asks s s' t t' (are_read ts x d) (is_over m q k e' f') =
    absurd (let same = number-long files (text_names asks) (Read ts) (Over m) (texts-walk files (text_names asks) ts x) (total-walk files (text_names asks) m q k) in cc)
one-later files words asks s s' t t' (are_read ts x d) (are_read us y d') =
    let same : ts ≡ us = ap read-at (number-long files (text_names asks) (Read ts) (Read us) (texts-walk files (text_names asks) ts x) (texts-walk files (text_names asks) us y)) in
    one-text-end words asks us s s' t t' (subst (λ (z : List (List ℕ)). TextEnd words asks z s t) same d) d'

-- ---- a file that is not held

not-missing : (files : Held) (words : List (List ℕ)) (asks : Asks) (s : Status) (t : List ℕ) (k : ℕ) → Later (Some files) words asks s t → walk files 0 0 (text_names asks) ≡ Missing k → ⊥
not-missing files words asks s t k (is_long n r l e f) at = absurd (let same = number-long files (text_names asks) (Long n) (Missing k) (long-walk files (text_names asks) n r l) at in cc)
not-missing files words asks s t k (is_over n r l e f) at = absurd (let same = number-long files (text_names asks) (Over n) (Missing k) (total-walk files (text_names asks) n r l) at in cc)
not-missing files words asks s t k (are_read ts x d) at = absurd (let same = number-long files (text_names asks) (Read ts) (Missing k) (texts-walk files (text_names asks) ts x) at in cc)

pub due-or-missing : (files : Held) (words : List (List ℕ)) (line : Option Asks) (s : Status) (t : List ℕ) (k : ℕ) → IsDue (Some files) words line s t → IsMissing files line k → ⊥
due-or-missing files words None s t k d m = m
due-or-missing files words (Some asks) s t k d m = not-missing files words asks s t k (later (Some files) words asks s t m.0 d) (missing-walk files (text_names asks) k m.1 m.2)

pub one-missing : (files : Held) (line : Option Asks) (j k : ℕ) → IsMissing files line j → IsMissing files line k → j ≡ k
one-missing files None j k a b = absurd a
one-missing files (Some asks) j k a b = ap long-at (number-long files (text_names asks) (Missing j) (Missing k) (missing-walk files (text_names asks) j a.1 a.2) (missing-walk files (text_names asks) k b.1 b.2))

-- ---- the ends of a line by its words alone

by-false : (held : Option Held) (words : List (List ℕ)) (asks : Asks) (s : Status) (t : List ℕ) → takes_texts asks ≡ false → IsDue held words (Some asks) s t → Same Unbuilt [] s t
by-false held words asks s t f (unbuilt_command g) = (refl, refl)
by-false held words asks s t f (many_texts g m) = absurd cc
by-false held words asks s t f (many_arguments g w m) = absurd cc
by-false held words asks s t f (long_text d q l) = absurd (let e = d.takes in cc)
by-false held words asks s t f (long_texts d q l) = absurd (let e = d.takes in cc)
by-false held words asks s t f (limit ts d x r) = absurd (let e = d.takes in cc)
by-false held words asks s t f (syntax_fault ts d x r) = absurd (let e = d.takes in cc)
by-false held words asks s t f (done ts d x o) = absurd (let e = d.takes in cc)
by-false held words asks s t f (unbuilt ts d x a n) = absurd (let e = d.takes in cc)

by-texts : (held : Option Held) (words : List (List ℕ)) (asks : Asks) (s : Status) (t : List ℕ) → takes_texts asks ≡ true → 64 < length (text_names asks) → IsDue held words (Some asks) s t → Same (Limit None which.Texts) [] s t
by-texts held words asks s t f many (unbuilt_command g) = absurd cc
by-texts held words asks s t f many (many_texts g m) = (refl, refl)
by-texts held words asks s t f many (many_arguments g w m) = absurd (omega arith)
by-texts held words asks s t f many (long_text d q l) = absurd (let e = d.few_texts in omega arith)
by-texts held words asks s t f many (long_texts d q l) = absurd (let e = d.few_texts in omega arith)
by-texts held words asks s t f many (limit ts d x r) = absurd (let e = d.few_texts in omega arith)
by-texts held words asks s t f many (syntax_fault ts d x r) = absurd (let e = d.few_texts in omega arith)
by-texts held words asks s t f many (done ts d x o) = absurd (let e = d.few_texts in omega arith)
by-texts held words asks s t f many (unbuilt ts d x a n) = absurd (let e = d.few_texts in omega arith)

by-arguments : (held : Option Held) (words : List (List ℕ)) (asks : Asks) (s : Status) (t : List ℕ) → takes_texts asks ≡ true → length (text_names asks) ≤ 64 → 64 < length (arguments_of asks) → IsDue held words (Some asks) s t
    → Same (Limit None which.Arguments) [] s t
by-arguments held words asks s t f few many (unbuilt_command g) = absurd cc
by-arguments held words asks s t f few many (many_texts g m) = absurd (omega arith)
by-arguments held words asks s t f few many (many_arguments g w m) = (refl, refl)
by-arguments held words asks s t f few many (long_text d q l) = absurd (let e = d.few_arguments in omega arith)
by-arguments held words asks s t f few many (long_texts d q l) = absurd (let e = d.few_arguments in omega arith)
by-arguments held words asks s t f few many (limit ts d x r) = absurd (let e = d.few_arguments in omega arith)
by-arguments held words asks s t f few many (syntax_fault ts d x r) = absurd (let e = d.few_arguments in omega arith)
by-arguments held words asks s t f few many (done ts d x o) = absurd (let e = d.few_arguments in omega arith)
by-arguments held words asks s t f few many (unbuilt ts d x a n) = absurd (let e = d.few_arguments in omega arith)

no-words : (held : Option Held) (words : List (List ℕ)) (s : Status) (t : List ℕ) → IsDue held words None s t → Same Usage [] s t
no-words held words s t usage = (refl, refl)

-- the line's texts are read, and it is told what the files hold; or they are not
abbrev Decides : Option Held → Asks → Type 0
Decides held asks = (Reads asks → (files : Held) × (held ≡ Some files))

reads-so : (held : Option Held) (words : List (List ℕ)) (asks : Asks) (s s' : Status) (t t' : List ℕ) → Decides held asks → Reads asks → IsDue held words (Some asks) s t → IsDue held words (Some asks) s' t' → Same s t s' t'
reads-so held words asks s s' t t' told r d d' =
    let files = told r in
    let a : Later (Some files.0) words asks s t = subst (λ (h : Option Held). Later h words asks s t) files.1 (later held words asks s t r d) in
    let b : Later (Some files.0) words asks s' t' = subst (λ (h : Option Held). Later h words asks s' t') files.1 (later held words asks s' t' r d') in
    one-later files.0 words asks s s' t t' a b

one-of-line : (held : Option Held) (words : List (List ℕ)) (asks : Asks) (s s' : Status) (t t' : List ℕ) → Decides held asks → IsDue held words (Some asks) s t → IsDue held words (Some asks) s' t' → Same s t s' t'
one-of-line held words asks s s' t t' told (unbuilt_command f) d = by-false held words asks s' t' f d
one-of-line held words asks s s' t t' told (many_texts f m) d = by-texts held words asks s' t' f m d
one-of-line held words asks s s' t t' told (many_arguments f w m) d = by-arguments held words asks s' t' f w m d
one-of-line held words asks s s' t t' told (long_text r q l) d = reads-so held words asks s s' t t' told r (long_text r q l) d
one-of-line held words asks s s' t t' told (long_texts r q l) d = reads-so held words asks s s' t t' told r (long_texts r q l) d
one-of-line held words asks s s' t t' told (limit ts r x f) d = reads-so held words asks s s' t t' told r (limit ts r x f) d
one-of-line held words asks s s' t t' told (syntax_fault ts r x f) d = reads-so held words asks s s' t t' told r (syntax_fault ts r x f) d
one-of-line held words asks s s' t t' told (done ts r x o) d = reads-so held words asks s s' t t' told r (done ts r x o) d
one-of-line held words asks s s' t t' told (unbuilt ts r x a n) d = reads-so held words asks s s' t t' told r (unbuilt ts r x a n) d

pub one-due : (held : Option Held) (words : List (List ℕ)) (line : Option Asks) (s s' : Status) (t t' : List ℕ) → ((asks : Asks) → line ≡ Some asks → Decides held asks)
    → IsDue held words line s t → IsDue held words line s' t' → Same s t s' t'
one-due held words None s s' t t' told d d' = let a = no-words held words s t d in let b = no-words held words s' t' d' in (sym a.0 ∙ b.0, sym a.1 ∙ b.1)
one-due held words (Some asks) s s' t t' told d d' = one-of-line held words asks s s' t t' (told asks refl) d d'
