-- What is said of what the pass has made of a pattern, in front of what is made already: whatever has been taken, where the pattern's variables
-- are new, and so are the fresh ones in between two numbers.
use Rattle.std.specs.Prelude.{◌≡◌, ℕ, zero, suc, ◌+◌, ◌<◌, ◌≤◌, ◌⊎◌, Bool, true, false, List, [], ◌∷◌, map}
use Rattle.rml_fol.specs.Expressions.{Vals}
use Rattle.rml_fol.specs.Fits.{vars_fit}
use Rattle.rml_value.specs.declared.value.TheConstants.{CONS}
use Rattle.rml_terms.specs.Matching.{Matcher, match_con}
use Rattle.rml_cps.specs.declared.statements.Continuation.{Continuation}
use Rattle.rml_cps.specs.declared.statements.Stmt.{Stmt}
use Rattle.rml_cps.specs.Statements.{RelationActs}
use Rattle.rml_tocps.specs.Carries.{take_all, AreNew}
use Rattle.rml_tocps.specs.Pass.{New}
use Rattle.rml_fol.specs.declared.statements.Tag.{Tag}
use Rattle.rml_tocps.specs.Matches.{Matches, PartOf, PartMatches, EachPart, parts_taken, matchers, new_test}
use Rattle.rml_tocps.specs.Passing.{made}

-- what was not taken is not taken still, but for fresh variables in between
pub record Leaves (from to : ℕ) (taken after : ℕ → Bool) : Type 0 where
  pub at : (x : ℕ) → taken x ≡ false → (x < from) ⊎ (to ≤ x) → after x ≡ false

-- the fresh variables in between are not taken, and those of the relation, which are so many, stand before them
pub record AreFree (own from to : ℕ) (taken : ℕ → Bool) : Type 0 where
  pub behind : own ≤ from
  pub rising : from ≤ to
  pub free : (x : ℕ) → from ≤ x → x < to → taken x ≡ false

-- a pattern that binds these variables matches against what x stands for, and takes them and fresh ones in between
pub record Taken (from to : ℕ) (h : Continuation) (taken : ℕ → Bool) (m : Matcher) (xs : List ℕ) (x : ℕ) (change : New) : Type 0 where
  pub after : ℕ → Bool
  pub leaves : Leaves from to (take_all xs taken) after
  pub matches : Matches h taken after m x change

pub record MatchMade (own from to : ℕ) (h : Continuation) (m : Matcher) (xs : List ℕ) (x : ℕ) (rest new : List Stmt) : Type 0 where
  pub change : New
  pub is : (vals : Vals) (news : RelationActs) → made new vals news ≡ change vals news (made rest vals news)
  pub by : (taken : ℕ → Bool) → AreFree own from to taken → vars_fit own xs ≡ true → AreNew xs taken → Taken from to h taken m xs x change

-- and so does one against the argument of a number
pub record PartTaken (from to : ℕ) (h : Continuation) (taken : ℕ → Bool) (m : Matcher) (xs : List ℕ) (x i : ℕ) (change : New) : Type 0 where
  pub after : ℕ → Bool
  pub leaves : Leaves from to (take_all xs taken) after
  pub matches : PartMatches h taken x i (record { matcher = m; new = change; taken = after })

pub record PartMade (own from to : ℕ) (h : Continuation) (m : Matcher) (xs : List ℕ) (x i : ℕ) (rest new : List Stmt) : Type 0 where
  pub change : New
  pub is : (vals : Vals) (news : RelationActs) → made new vals news ≡ change vals news (made rest vals news)
  pub by : (taken : ℕ → Bool) → AreFree own from to taken → vars_fit own xs ≡ true → AreNew xs taken → PartTaken from to h taken m xs x i change

-- changes, one after another
abbrev pub in_row : List New → New
in_row [] vals news onward = onward
in_row (c ∷ cs) vals news onward = c vals news (in_row cs vals news onward)

-- patterns against the arguments from a number on
pub record PartsTaken (from to : ℕ) (h : Continuation) (taken : ℕ → Bool) (ms : List Matcher) (xs : List ℕ) (x i : ℕ) (changes : List New) : Type 0 where
  pub parts : List PartOf
  pub same : matchers parts ≡ ms
  pub changed : map (λ (a : PartOf). a.new) parts ≡ changes
  pub each : EachPart h taken x i parts
  pub leaves : Leaves from to (take_all xs taken) (parts_taken taken parts)

pub record PartsMade (own from to : ℕ) (h : Continuation) (ms : List Matcher) (xs : List ℕ) (x i : ℕ) (rest new : List Stmt) : Type 0 where
  pub changes : List New
  pub is : (vals : Vals) (news : RelationActs) → made new vals news ≡ in_row changes vals news (made rest vals news)
  pub by : (taken : ℕ → Bool) → AreFree own from to taken → vars_fit own xs ≡ true → AreNew xs taken → PartsTaken from to h taken ms xs x i changes

-- a test of what x stands for, in front of what is made
pub record TestMade (t : Tag) (x : ℕ) (h : Continuation) (rest new : List Stmt) : Type 0 where
  pub by : (vals : Vals) (news : RelationActs) → made new vals news ≡ new_test t x h vals news (made rest vals news)

-- where a list is from a position on: in x itself, and then in fresh variables in a row
abbrev pub place_at : ℕ → ℕ → ℕ → ℕ
place_at x first zero = x
place_at x first (suc i) = first + i

-- items in front of what matches the rest
abbrev pub match_front : List Matcher → Matcher → Matcher
match_front [] rest v env = rest v env
match_front (m ∷ ms) rest v env = match_con CONS (m ∷ match_front ms rest ∷ []) v env
