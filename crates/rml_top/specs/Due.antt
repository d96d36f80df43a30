-- What is due for a line over what the files hold, by the order of refusals.
use Rattle.std.specs.Prelude.{◌≡◌, ℕ, ◌<◌, ◌≤◌, true, false, List, [], ◌∷◌, length}
use Rattle.std.specs.FinMap as fin_map
use Rattle.std.specs.declared.option.Option.{Option}
use Rattle.std.specs.declared.option.Option.TheVariants.{Some, None}
use Rattle.rml_base.specs.declared.limits.TheConstants.{ARGUMENTS, TEXTS}
use Rattle.rml_base.specs.declared.place.Place.{Place}
use Rattle.rml_io.specs.Files.{Held}
use Rattle.rml_lex.specs.Places.{start}
use Rattle.rml_syntax.specs.declared.texts.Text.{Text}
use Rattle.rml_words.specs.Forms.{Asks, Check, ShowTokens, ShowTree, Show, ShowC, Run, Crun, Make}
use Rattle.rml_stages.specs.Reading.{AreRead, IsFirstRefusal}
use Rattle.rml_stages.specs.Shown.{ShowsTokens, ShowsTree}
use Rattle.rml_stages.specs.declared.refusal.Kind.{Kind}
use Rattle.rml_stages.specs.declared.refusal.Refusal.{Refusal}
use Rattle.rml_stages.specs.declared.refusal.Refusal.TheVariants as refusal
use Rattle.rml_stages.specs.declared.refusal.Which.{Which}
use Rattle.rml_stages.specs.declared.refusal.Which.TheVariants as which
use Rattle.rml_top.specs.declared.status.Status.{Status}
use Rattle.rml_top.specs.declared.status.Status.TheVariants.{Done, Usage, Syntax, Limit, Unbuilt}
use Rattle.rml_top.specs.Line.{Reads, takes_texts, text_names, arguments_of, is_plain_run}
use Rattle.rml_top.specs.Sources.{AreTexts, IsReached, IsTooLong, PassTotal}
use Rattle.rml_top.specs.Text.{IsText}

-- Each of the texts of a line is read. They are numbered from 0, and no name is known before them.
abbrev pub AreAccepted : List (List ℕ) → Type 0
AreAccepted texts = (trees : List Text) × (names : List (List ℕ)) × AreRead 0 texts [] trees names

-- the texts of a line are refused so: this is their first refusal
abbrev pub AreRefused : List (List ℕ) → Refusal → Type 0
AreRefused texts why = IsFirstRefusal 0 texts [] why

-- there is one text, of the first form, which prints this
abbrev pub PrintsFirst : List (List ℕ) → List ℕ → Type 0
PrintsFirst texts out = (bytes : List ℕ) × (texts ≡ bytes ∷ []) × IsText bytes out

-- For accepted texts the command gives this output. It is the tokens or the tree of the one text; or what a text of the first
-- form prints, where the line is `run FILE`. Nothing else is built.
abbrev pub Outputs : List (List ℕ) → Asks → List (List ℕ) → List ℕ → Type 0
Outputs words (ShowTokens file) texts out = (bytes : List ℕ) × (texts ≡ bytes ∷ []) × ShowsTokens bytes out
Outputs words (ShowTree file) texts out = (bytes : List ℕ) × (texts ≡ bytes ∷ []) × ShowsTree bytes out
Outputs words (Run cells steps files arguments) texts out = (is_plain_run words ≡ true) × AreAccepted texts × PrintsFirst texts out
Outputs words (Check files) texts out = ⊥
Outputs words (Show stage files) texts out = ⊥
Outputs words (ShowC cells files) texts out = ⊥
Outputs words (Crun steps file arguments) texts out = ⊥
Outputs words (Make relations) texts out = ⊥

-- For the words, what they ask for and what the files hold, this status is due, and this output. The order of refusals is that of
-- the cases: each has the premises under which none before it comes.
pub data IsDue : Option Held → List (List ℕ) → Option Asks → Status → List ℕ → Type 0 where
  -- by the words alone
  usage : {held : Option Held} {words : List (List ℕ)} → IsDue held words None Usage []
  unbuilt_command : {held : Option Held} {words : List (List ℕ)} {asks : Asks} → takes_texts asks ≡ false → IsDue held words (Some asks) Unbuilt []
  many_texts : {held : Option Held} {words : List (List ℕ)} {asks : Asks} → takes_texts asks ≡ true → TEXTS < length (text_names asks)
      → IsDue held words (Some asks) (Limit None which.Texts) []
  many_arguments : {held : Option Held} {words : List (List ℕ)} {asks : Asks} → takes_texts asks ≡ true → length (text_names asks) ≤ TEXTS → ARGUMENTS < length (arguments_of asks)
      → IsDue held words (Some asks) (Limit None which.Arguments) []
  -- file by file
  long_text : {held : Option Held} {words : List (List ℕ)} {asks : Asks} {number : ℕ} → Reads asks → (r : IsReached held (text_names asks) number) → IsTooLong held r.name
      → IsDue held words (Some asks) (Limit (Some (start number)) which.Bytes) []
  long_texts : {held : Option Held} {words : List (List ℕ)} {asks : Asks} {number : ℕ} → Reads asks → (r : IsReached held (text_names asks) number) → PassTotal held r.texts r.name
      → IsDue held words (Some asks) (Limit (Some (start number)) which.Total) []
  -- text by text
  limit : {held : Option Held} {words : List (List ℕ)} {asks : Asks} {place : Option Place} {passed : Which} (texts : List (List ℕ)) → Reads asks → AreTexts held (text_names asks) texts
      → AreRefused texts (refusal.Limit place passed) → IsDue held words (Some asks) (Limit place passed) []
  syntax_fault : {held : Option Held} {words : List (List ℕ)} {asks : Asks} {place : Place} {kind : Kind} (texts : List (List ℕ)) → Reads asks → AreTexts held (text_names asks) texts
      → AreRefused texts (refusal.Syntax place kind) → IsDue held words (Some asks) (Syntax place kind) []
  -- over accepted texts
  done : {held : Option Held} {words : List (List ℕ)} {asks : Asks} {out : List ℕ} (texts : List (List ℕ)) → Reads asks → AreTexts held (text_names asks) texts
      → Outputs words asks texts out → IsDue held words (Some asks) (Done None) out
  unbuilt : {held : Option Held} {words : List (List ℕ)} {asks : Asks} (texts : List (List ℕ)) → Reads asks → AreTexts held (text_names asks) texts
      → AreAccepted texts → ((out : List ℕ) → ¬ Outputs words asks texts out) → IsDue held words (Some asks) Unbuilt []

-- It is told what the files hold. The texts of the line are read, and the file of this number is due, of which nothing is held: so
-- nothing is due but a fault of reading it.
abbrev pub IsMissing : Held → Option Asks → ℕ → Type 0
IsMissing files None number = ⊥
IsMissing files (Some asks) number = Reads asks × (r : IsReached (Some files) (text_names asks) number) × (fin_map.get files r.name ≡ None)
