-- Each line has what is due for it, where it is told what the files hold, or a file that is due is not held.
use Rattle.std.proofs.Common.{◌≡◌, ℕ, ◌+◌, ◌<◌, ◌≤◌, Bool, true, false, List, [], ◌∷◌, ◌++◌, length, Some, None, refl, sym, ap, subst, arith, inl, inr, append_assoc, append-nil, ◌⊎◌}
use Rattle.std.specs.Prelude.{All, IsSomeAnd, flat_map}
use Rattle.std.specs.List.{list_all}
use Rattle.std.proofs.lemmas.Bool.{cases_lt}
use Rattle.std.specs.FinMap as fin_map
use Rattle.std.specs.declared.option.Option.{Option}
use Rattle.rml_io.specs.Files.{Held}
use Rattle.rml_lex.specs.Character.{unescaped}
use Rattle.rml_lex.specs.Places.{start}
use Rattle.rml_lex.specs.Reading.{Part, Reaches}
use Rattle.rml_lex.proofs.Callers.{one-reading}
use Rattle.rml_print.specs.Listing.{listing}
use Rattle.rml_print.specs.Printed.{printed_text}
use Rattle.rml_syntax.specs.declared.texts.Text.{Text}
use Rattle.rml_stages.specs.Reading.{AreRead, IsFirstRefusal, IsRead}
use Rattle.rml_stages.specs.declared.refusal.Refusal.{Refusal}
use Rattle.rml_stages.specs.declared.refusal.Refusal.TheVariants as refusal
use Rattle.rml_stages.specs.declared.refusal.Which.TheVariants as which
use Rattle.rml_stages.specs.Shown.{ShowsTokens, ShowsTree}
use Rattle.rml_stages.proofs.Callers.{each-list}
use Rattle.rml_words.specs.Forms.{Asks, Check, ShowTokens, ShowTree, Show, ShowC, Run, Crun, Make}
use Rattle.rml_top.specs.Due.{AreAccepted, Outputs, PrintsFirst, IsDue, IsMissing, usage, unbuilt_command, many_texts, many_arguments, long_text, long_texts, limit, syntax_fault, done, unbuilt}
use Rattle.rml_top.specs.Line.{Reads, takes_texts, text_names, arguments_of, is_plain_run}
use Rattle.rml_top.specs.FirstForm.{IsFirstForm}
use Rattle.rml_top.specs.Matching.{literals_in}
use Rattle.rml_top.specs.Sources.{AreHeld, AreTexts, IsReached, IsTooLong, PassTotal, total}
use Rattle.rml_top.specs.Text.{HasTokens, IsText, is_simple, spellings}
use Rattle.rml_top.specs.declared.status.Status.{Status}
use Rattle.rml_top.specs.declared.status.Status.TheVariants.{Done, Usage, Syntax, Limit, Unbuilt}
use Rattle.rml_top.proofs.Alone.{only-text}
use Rattle.rml_top.proofs.FileWalk.{head-short}
use Rattle.rml_top.proofs.Form.{form-found, form-is}
use Rattle.rml_top.proofs.Performing.{inside}
use Rattle.rml_top.proofs.Pieces.{no_comment}
use Rattle.rml_top.proofs.Printing.{no-form, not-simple}
use Rattle.rml_top.proofs.Turns.{no-texts, texts-more}

-- ---- how reading the files ends

data FilesEnd (files : Held) (names : List (List ℕ)) : Type 0 where
  a_missing : (k : ℕ) (r : IsReached (Some files) names k) → fin_map.get files r.name ≡ None → FilesEnd files names
  a_long : (k : ℕ) (r : IsReached (Some files) names k) → IsTooLong (Some files) r.name → FilesEnd files names
  too_many : (k : ℕ) (r : IsReached (Some files) names k) → PassTotal (Some files) r.texts r.name → FilesEnd files names
  all_read : (texts : List (List ℕ)) → AreTexts (Some files) names texts → FilesEnd files names

module _ (files : Held) where
  reached : (before : List (List ℕ)) (name : List ℕ) (after texts : List (List ℕ)) → AreTexts (Some files) before texts → IsReached (Some files) (before ++ name ∷ after) (length before)
  reached before name after texts t = record { before = before; name = name; after = after; names_are = refl; number_is = refl; texts = texts; read = t }

  -- behind texts that are read, the file of the name, of which this is held
  next-file : (before : List (List ℕ)) (name : List ℕ) (after texts : List (List ℕ)) → AreTexts (Some files) before texts → (held : Option (List ℕ)) → fin_map.get files name ≡ held
      → ((text : List ℕ) → AreTexts (Some files) (before ++ name ∷ []) (texts ++ text ∷ []) → FilesEnd files (before ++ name ∷ after)) → FilesEnd files (before ++ name ∷ after)
  unfolding reached
  next-file before name after texts t None e more = a_missing (length before) (reached before name after texts t) e
  next-file before name after texts t (Some text) e more = elim (cases_lt 1048576 (length text)) [
    | inl long ↦ a_long (length before) (reached before name after texts t) (subst (λ (h : Option (List ℕ)). IsSomeAnd h (λ bytes. 1048576 < length bytes)) (sym e) long)
    | inr short ↦ elim (cases_lt 4194304 (total texts + length text)) [
      | inl over ↦ too_many (length before) (reached before name after texts t) (text, e, short, over)
      | inr fits ↦ more text (texts-more (Some files) before texts name text t e short fits)
    ]
  ]

  files-from : (after before texts : List (List ℕ)) → AreTexts (Some files) before texts → FilesEnd files (before ++ after)
  files-from [] before texts t = all_read texts (subst (λ (ns : List (List ℕ)). AreTexts (Some files) ns texts) (sym (append-nil before)) t)
  files-from (name ∷ after) before texts t = next-file before name after texts t (fin_map.get files name) refl
      (λ text more. subst (λ (ns : List (List ℕ)). FilesEnd files ns) (append_assoc before (name ∷ []) after) (files-from after (before ++ name ∷ []) (texts ++ text ∷ []) more))

  files-end : (names : List (List ℕ)) → FilesEnd files names
  files-end names = files-from names [] [] (no-texts (Some files))

-- ---- what accepted texts give, or that they give nothing

-- one of two: there is such an output, or there is none
abbrev Either : (List ℕ → Type 0) → Type 0
Either P = ((out : List ℕ) × P out) ⊎ ((out : List ℕ) → ¬ P out)

-- by its literals, where the tokens are of the first form
by-literals : (bytes : List ℕ) (tokens literals : List (List ℕ)) → length bytes ≤ 1048576 → HasTokens bytes tokens → IsFirstForm tokens literals → (simple : Bool) → list_all is_simple literals ≡ simple → Either (IsText bytes)
by-literals bytes tokens literals short h f true e = inl (flat_map unescaped literals, record { short = short; tokens = tokens; literals = literals; has_tokens = h; form = f; simple = e; prints = refl })
by-literals bytes tokens literals short h f false e = inr (not-simple bytes tokens literals h f e)

by-tokens : (bytes : List ℕ) (tokens : List (List ℕ)) → length bytes ≤ 1048576 → HasTokens bytes tokens → (found : Option (List (List ℕ))) → literals_in tokens ≡ found → Either (IsText bytes)
by-tokens bytes tokens short h None e = inr (no-form bytes tokens h (λ literals f. let g = form-found tokens literals f in cc))
by-tokens bytes tokens short h (Some literals) e = by-literals bytes tokens literals short h (form-is tokens literals e) (list_all is_simple literals) refl

by-parts : (bytes : List ℕ) (parts : List Part) → length bytes ≤ 1048576 → Reaches bytes parts [] → (plain : Bool) → list_all no_comment parts ≡ plain → Either (IsText bytes)
by-parts bytes parts short r true e = by-tokens bytes (spellings parts) short (record { parts = parts; reaches = r; no_comment = e; tokens_are = refl }) (literals_in (spellings parts)) refl
by-parts bytes parts short r false e = inr (λ out t.
    let same : t.has_tokens.parts ≡ parts = one-reading t.has_tokens.parts parts bytes t.has_tokens.reaches r in
    let plain : list_all no_comment parts ≡ true = subst (λ (ps : List Part). list_all no_comment ps ≡ true) same t.has_tokens.no_comment in
    cc)

-- what one text prints
text-or-none : (bytes : List ℕ) (tree : Text) (names : List (List ℕ)) → length bytes ≤ 1048576 → IsRead 0 bytes [] tree names → Either (IsText bytes)
text-or-none bytes tree names short read = let s = read.1.spelled.spelled in by-parts bytes s.0 short s.1 (list_all no_comment s.0) refl

first-or-none : (texts : List (List ℕ)) (trees : List Text) (names : List (List ℕ)) → All (λ text. length text ≤ 1048576) texts → AreRead 0 texts [] trees names → Either (PrintsFirst texts)
first-or-none [] trees names short a = inr (λ out p. let e = ap length p.1 in omega arith)
first-or-none (bytes ∷ other ∷ texts) trees names short a = inr (λ out p. let e = ap length p.1 in omega arith)
first-or-none (bytes ∷ []) [] names short a = absurd a
first-or-none (bytes ∷ []) (tree ∷ trees) names short a = elim (text-or-none bytes tree a.0 (head-short bytes [] short) a.1) [
  | inl t ↦ inl (t.0, (bytes, refl, t.1))
  | inr none ↦ inr (λ out p. none out (subst (λ (b : List ℕ). IsText b out) (only-text (bytes ∷ []) p.0 bytes p.1 refl) p.2))
]

run-or-none : (words : List (List ℕ)) (cells steps : ℕ) (files arguments texts : List (List ℕ)) → AreAccepted texts → All (λ text. length text ≤ 1048576) texts → (plain : Bool) → is_plain_run words ≡ plain
    → Either (Outputs words (Run cells steps files arguments) texts)
run-or-none words cells steps files arguments texts a short false e = inr (λ out o. let plain = o.0 in cc)
run-or-none words cells steps files arguments texts a short true e = elim (first-or-none texts a.0 a.1 short a.2) [
  | inl p ↦ inl (p.0, (e, a, p.1))
  | inr none ↦ inr (λ out o. none out o.2)
]

-- the one text of a file
abbrev AloneRead : List (List ℕ) → Type 0
AloneRead texts = (bytes : List ℕ) × (texts ≡ bytes ∷ []) × (tree : Text) × (names : List (List ℕ)) × IsRead 0 bytes [] tree names

alone-read : (held : Option Held) (file : List ℕ) (texts : List (List ℕ)) (trees : List Text) (names : List (List ℕ)) → AreHeld held (file ∷ []) texts → AreRead 0 texts [] trees names → AloneRead texts
alone-read held file [] trees names h a = absurd h
alone-read held file (bytes ∷ other ∷ texts) trees names h a = absurd h.1
alone-read held file (bytes ∷ []) [] names h a = absurd a
alone-read held file (bytes ∷ []) (tree ∷ trees) names h a = (bytes, refl, tree, a.0, a.1)

shown-tokens : (texts : List (List ℕ)) → AloneRead texts → (out : List ℕ) × ((bytes : List ℕ) × (texts ≡ bytes ∷ []) × ShowsTokens bytes out)
shown-tokens texts (bytes, e, tree, names, (spots, read)) = (listing names spots, (bytes, e, record { spots = spots; tree = tree; names = names; read = read; listed = refl }))

shown-tree : (texts : List (List ℕ)) → AloneRead texts → (out : List ℕ) × ((bytes : List ℕ) × (texts ≡ bytes ∷ []) × ShowsTree bytes out)
shown-tree texts (bytes, e, tree, names, (spots, read)) = (printed_text names tree, (bytes, e, record { tree = tree; names = names; read = (spots, read); printed = refl }))

output-or-none : (held : Option Held) (words : List (List ℕ)) (asks : Asks) (texts : List (List ℕ)) → AreTexts held (text_names asks) texts → AreAccepted texts → Either (Outputs words asks texts)
output-or-none held words (ShowTokens file) texts t a = inl (shown-tokens texts (alone-read held file texts a.0 a.1 t.are_held a.2))
output-or-none held words (ShowTree file) texts t a = inl (shown-tree texts (alone-read held file texts a.0 a.1 t.are_held a.2))
output-or-none held words (Run cells steps files arguments) texts t a = run-or-none words cells steps files arguments texts a t.within.each (is_plain_run words) refl
output-or-none held words (Check files) texts t a = inr (λ out o. o)
output-or-none held words (Show stage files) texts t a = inr (λ out o. o)
output-or-none held words (ShowC cells files) texts t a = inr (λ out o. o)
output-or-none held words (Crun steps file arguments) texts t a = inr (λ out o. o)
output-or-none held words (Make relations) texts t a = inr (λ out o. o)

-- ---- the ends of a line

abbrev Due : Held → List (List ℕ) → Asks → Type 0
Due files words asks = (status : Status) × (out : List ℕ) × IsDue (Some files) words (Some asks) status out

-- over texts that are read from their files
by-texts : (files : Held) (words : List (List ℕ)) (asks : Asks) (texts : List (List ℕ)) → Reads asks → AreTexts (Some files) (text_names asks) texts
    → ((trees : List Text) × (names : List (List ℕ)) × AreRead 0 texts [] trees names) ⊎ ((why : Refusal) × IsFirstRefusal 0 texts [] why) → Due files words asks
by-texts files words asks texts r t (inr (refusal.Limit place passed, f)) = (Limit place passed, [], limit texts r t f)
by-texts files words asks texts r t (inr (refusal.Syntax place kind, f)) = (Syntax place kind, [], syntax_fault texts r t f)
by-texts files words asks texts r t (inr (refusal.Memory, f)) = absurd (inside texts refusal.Memory f)
by-texts files words asks texts r t (inl a) = elim (output-or-none (Some files) words asks texts t a) [
  | inl given ↦ (Done None, given.0, done texts r t given.1)
  | inr none ↦ (Unbuilt, [], unbuilt texts r t a none)
]

by-files : (files : Held) (words : List (List ℕ)) (asks : Asks) → Reads asks → FilesEnd files (text_names asks) → Due files words asks ⊎ ((number : ℕ) × IsMissing files (Some asks) number)
by-files files words asks r (a_missing k q e) = inr (k, (r, q, e))
by-files files words asks r (a_long k q l) = inl (Limit (Some (start k)) which.Bytes, [], long_text r q l)
by-files files words asks r (too_many k q p) = inl (Limit (Some (start k)) which.Total, [], long_texts r q p)
by-files files words asks r (all_read texts t) = inl (by-texts files words asks texts r t (each-list 0 texts []))

-- a command that takes texts
by-counts : (files : Held) (words : List (List ℕ)) (asks : Asks) → takes_texts asks ≡ true → Due files words asks ⊎ ((number : ℕ) × IsMissing files (Some asks) number)
by-counts files words asks e = elim (cases_lt 64 (length (text_names asks))) [
  | inl many ↦ inl (Limit None which.Texts, [], many_texts e many)
  | inr few ↦ elim (cases_lt 64 (length (arguments_of asks))) [
    | inl many ↦ inl (Limit None which.Arguments, [], many_arguments e few many)
    | inr few_arguments ↦ by-files files words asks (record { takes = e; few_texts = few; few_arguments = few_arguments }) (files-end files (text_names asks))
  ]
]

of-command : (files : Held) (words : List (List ℕ)) (asks : Asks) (takes : Bool) → takes_texts asks ≡ takes → Due files words asks ⊎ ((number : ℕ) × IsMissing files (Some asks) number)
of-command files words asks true e = by-counts files words asks e
of-command files words asks false e = inl (Unbuilt, [], unbuilt_command e)

pub each-due : (files : Held) (words : List (List ℕ)) (line : Option Asks) → ((status : Status) × (out : List ℕ) × IsDue (Some files) words line status out) ⊎ ((number : ℕ) × IsMissing files line number)
each-due files words None = inl (Usage, [], usage)
each-due files words (Some asks) = of-command files words asks (takes_texts asks) refl
