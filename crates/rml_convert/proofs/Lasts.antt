-- What waits, and what is made of the last of some parts.
use Rattle.std.proofs.Common.{◌≡◌, ℕ, zero, suc, ◌+◌, ◌-◌, ◌*◌, ◌<◌, ◌≤◌, List, [], ◌∷◌, ◌++◌, map, length, get_or, take, refl, sym, ap, ◌∙◌, reverse, arith}
use Rattle.std.specs.Prelude.{sum, sum_by}
use Rattle.std.proofs.lemmas.List.{take_all, take_more}
use Rattle.std.proofs.lemmas.List.Sums.{sum_by-append, sum-map}
use Rattle.rml_value.specs.declared.value.TheConstants.{CONS}
use Rattle.rml_fol.specs.declared.statements.Tag.TheVariants as tag
use Rattle.rml_fol.specs.declared.statements.Stmt.{Stmt as Clause}
use Rattle.rml_fol.specs.declared.statements.Alternative.{Alternative, out-Alternative, roll-out-Alternative, fold-roll-Alternative}
use Rattle.rml_fol.specs.declared.terms.Pattern.{Pattern}
use Rattle.rml_fol.specs.Size.{size, size_at, alternative_size, alternative_size_at, case_size, case_size_at}
use Rattle.rml_fol.specs.declared.statements.Case.{Case as Choice, map-Case, out-Case, roll-out-Case, fold-roll-Case}
use Rattle.rml_cps.specs.declared.statements.Case.{Case}
use Rattle.rml_cps.specs.declared.statements.Continuation.{Continuation}
use Rattle.rml_cps.specs.declared.statements.Continuation.TheVariants as continuation
use Rattle.rml_cps.specs.declared.statements.Stmt.{Stmt}
use Rattle.rml_cps.specs.declared.statements.Stmt.TheVariants as line
use Rattle.rml_tocps.specs.declared.pass.numbers.Numbers.{Numbers}
use Rattle.rml_tocps.specs.Matching.{place_at}
use Rattle.rml_convert.specs.declared.waiting.Waiting.{Waiting}
use Rattle.rml_conversion.specs.Hand.{Hand, Making, hand, more_variables, one_name, empty, with_line, tested, all_but_last, last_of}
use Rattle.rml_conversion.specs.Patterns.{PatternMaking, pattern_made, parts_made, items_made, tail_made, chain_made}
use Rattle.rml_conversion.specs.Statements.{BlockMaking, CaseMaking, Cased, in_front, block_of, one_more, others, or_of, cond_rest, with_case, all_cases, fields_made, cased, switched, case_made, made_at, alternative_at, case_at, stmt_made, alternative_made}
use Rattle.rml_convert.specs.Waiting.{waiting_made, all_made, others_work, cases_work}

pub next-is-made : (ws : List Waiting) (w : Waiting) (s : Hand) → all_made (ws ++ w ∷ []) s ≡ all_made ws (waiting_made w s)
next-is-made [] w s = refl
next-is-made (v ∷ ws) w s = ap (λ (t : Hand). waiting_made v t) (next-is-made ws w s)

pub mapped-last : {A C : Type 0} (f : A → C) (xs : List A) (x : A) → map f (xs ++ x ∷ []) ≡ map f xs ++ f x ∷ []
mapped-last f [] x = refl
mapped-last f (y ∷ ys) x = ap (λ zs. f y ∷ zs) (mapped-last f ys x)

pub in-front-last : (ms : List Making) (m : Making) (h : Continuation) (s : Hand) → in_front (ms ++ m ∷ []) h s ≡ in_front ms h (m h s)
in-front-last [] m h s = refl
in-front-last (k ∷ ms) m h s = ap (λ (t : Hand). k h t) (in-front-last ms m h s)

pub others-last : (ms : List BlockMaking) (m : BlockMaking) (h : Continuation) (s : Hand) → others (ms ++ m ∷ []) h s ≡ others ms h (one_more m h s)
others-last [] m h s = refl
others-last (k ∷ ms) m h s = ap (λ (t : Hand). one_more k h t) (others-last ms m h s)

pub or-last : (ms : List BlockMaking) (m : BlockMaking) (h : Continuation) (n : Numbers) → or_of (ms ++ m ∷ []) h n ≡ others ms h (m h n)
or-last [] m h n = refl
or-last (k ∷ []) m h n = refl
or-last (k ∷ l ∷ ms) m h n = ap (λ (t : Hand). one_more k h t) (or-last (l ∷ ms) m h n)

pub all-but-last : {A : Type 0} (xs : List A) (x : A) → all_but_last (xs ++ x ∷ []) ≡ xs
all-but-last [] x = refl
all-but-last (y ∷ []) x = refl
all-but-last (y ∷ z ∷ zs) x = ap (λ us. y ∷ us) (all-but-last (z ∷ zs) x)

last-there : {A : Type 0} (y : A) (ys : List A) (x : A) → last_of y (ys ++ x ∷ []) ≡ x
last-there y [] x = refl
last-there y (z ∷ zs) x = last-there z zs x

pub chain-last : (ms : List PatternMaking) (m : PatternMaking) (x : ℕ) (h : Continuation) (s : Hand) → chain_made (ms ++ m ∷ []) x h s ≡ tail_made ms m x h s
chain-last [] m x h s = refl
chain-last (k ∷ ms) m x h s =
    ap (λ (ns : List PatternMaking). tail_made ns (last_of k (ms ++ m ∷ [])) x h s) (all-but-last (k ∷ ms) m)
    ∙ ap (λ (n : PatternMaking). tail_made (k ∷ ms) n x h s) (last-there k ms m)

pub parts-last : (ms : List PatternMaking) (m : PatternMaking) (x i : ℕ) (h : Continuation) (s : Hand) → parts_made (ms ++ m ∷ []) x i h s ≡ parts_made ms x i h (m.part x (i + length ms) h s)
parts-last [] m x i h s = ap (λ (k : ℕ). m.part x k h s) (omega arith)
parts-last (k ∷ ms) m x i h s =
    ap (λ (t : Hand). k.part x i h t) (parts-last ms m x (suc i) h s ∙ ap (λ (j : ℕ). parts_made ms x (suc i) h (m.part x j h s)) (omega arith))

place-next : (x first k : ℕ) → place_at first (suc first) k ≡ place_at x first (suc k)
place-next x first zero = omega arith
place-next x first (suc k) = omega arith

pub items-last : (ms : List PatternMaking) (m : PatternMaking) (x first : ℕ) (h : Continuation) (s : Hand)
    → items_made (ms ++ m ∷ []) x first h s
    ≡ items_made ms x first h (tested (tag.Con CONS) (place_at x first (length ms)) h (m.part (place_at x first (length ms)) 1 h (with_line (line.Field (first + length ms) (place_at x first (length ms)) 2) s)))
items-last [] m x first h s = ap (λ (k : ℕ). tested (tag.Con CONS) x h (m.part x 1 h (with_line (line.Field k x 2) s))) (omega arith)
items-last (k ∷ ms) m x first h s =
    ap (λ (t : Hand). tested (tag.Con CONS) x h (k.part x 1 h (with_line (line.Field first x 2) t)))
    (items-last ms m first (suc first) h s
    ∙ ap (λ (p : ℕ). items_made ms first (suc first) h (tested (tag.Con CONS) p h (m.part p 1 h (with_line (line.Field (suc first + length ms) p 2) s)))) (place-next x first (length ms))
    ∙ ap (λ (r : ℕ). items_made ms first (suc first) h (tested (tag.Con CONS) (place_at x first (suc (length ms))) h (m.part (place_at x first (suc (length ms))) 1 h (with_line (line.Field r (place_at x first (suc (length ms))) 2) s)))) (omega arith))

pub cases-last : (ks : List CaseMaking) (k : CaseMaking) (x : ℕ) (h : Continuation) (c : Cased) → all_cases (ks ++ k ∷ []) x h c ≡ all_cases ks x h (with_case k x c.cases (k.block h c.numbers))
cases-last [] k x h c = refl
cases-last (l ∷ ks) k x h c = ap (λ (d : Cased). with_case l x d.cases (l.block h d.numbers)) (cases-last ks k x h c)

pub fields-last : (x i : ℕ) (ys : List ℕ) (y : ℕ) (lines : List Stmt) → fields_made x i (ys ++ y ∷ []) lines ≡ fields_made x i ys (lines ++ line.Field y x (i + length ys) ∷ [])
fields-last x i [] y lines = ap (λ (k : ℕ). lines ++ line.Field y x k ∷ []) (omega arith)
fields-last x i (z ∷ ys) y lines =
    ap (λ (ls : List Stmt). ls ++ line.Field z x i ∷ [])
    (fields-last x (suc i) ys y lines ∙ ap (λ (k : ℕ). fields_made x (suc i) ys (lines ++ line.Field y x k ∷ [])) (omega arith))

-- ---- the last of a list

-- a list that is not empty is what stands before its last item, and that
pub split-last : {A : Type 0} (xs : List A) (x : A) → 1 ≤ length xs → x ≡ get_or xs (length xs - 1) x → xs ≡ take (length xs - 1) xs ++ x ∷ []
split-last xs x some is =
    let n = length xs - 1 in
    sym (take_all (n + 1) xs (omega arith)) ∙ take_more xs n x (omega arith) ∙ ap (λ y. take n xs ++ y ∷ []) (sym is)

pub sum-last : {A : Type 0} (f : A → ℕ) (xs front : List A) (x : A) → xs ≡ front ++ x ∷ [] → sum_by f xs ≡ sum_by f front + f x
sum-last f xs front x is =
    let one : 0 + f x ≡ f x = omega arith in
    ap (λ zs. sum_by f zs) is ∙ sum_by-append f front (x ∷ []) ∙ ap (λ k. sum_by f front + k) one

pub mapped-as : {A C : Type 0} (f : A → C) (xs front : List A) (x : A) → xs ≡ front ++ x ∷ [] → map f front ++ f x ∷ [] ≡ map f xs
mapped-as f xs front x is = sym (ap (λ zs. map f zs) is ∙ mapped-last f front x)

all-but-mapped : {A C : Type 0} (f : A → C) (xs : List A) → map f (all_but_last xs) ≡ all_but_last (map f xs)
all-but-mapped f [] = refl
all-but-mapped f (x ∷ []) = refl
all-but-mapped f (x ∷ y ∷ ys) = ap (λ zs. f x ∷ zs) (all-but-mapped f (y ∷ ys))

fronts : {A : Type 0} (x : A) (xs : List A) → take (length xs) (x ∷ xs) ≡ all_but_last (x ∷ xs)
fronts x [] = refl
fronts x (y ∷ ys) = ap (λ zs. x ∷ zs) (fronts y ys)

-- what stands before the last
pub before-last : {A C : Type 0} (f : A → C) (xs : List A) → 1 ≤ length xs → map f (take (length xs - 1) xs) ≡ all_but_last (map f xs)
before-last f [] h = absurd (omega arith)
before-last f (x ∷ xs) h =
    let n : length (x ∷ xs) - 1 ≡ length xs = omega arith in
    ap (λ k. map f (take k (x ∷ xs))) n ∙ ap (λ ys. map f ys) (fronts x xs) ∙ all-but-mapped f (x ∷ xs)

-- ---- turns

alternative-as : (a : Alternative) → alternative_made a ≡ block_of (map stmt_made (out-Alternative a).block)
alternative-as a = ap alternative_made (sym (roll-out-Alternative a)) ∙ fold-roll-Alternative Making BlockMaking CaseMaking made_at alternative_at case_at (out-Alternative a)

abbrev all_alternatives : List Alternative → Continuation → Hand → Hand
all_alternatives all = others (map alternative_made all)

pub or-turn : (xs : List Alternative) (x : Alternative) (block : List Clause) (h : Continuation) (n : Numbers) (lines : List Stmt) (w0 w1 w2 : List Waiting) → xs ≡ take (length xs - 1) xs ++ x ∷ [] → lines ≡ [] → block ≡ (out-Alternative x).block
    → ((s : Hand) → all_made w1 s ≡ all_made w0 (others (map alternative_made (take (length xs - 1) xs)) h s)) → ((s : Hand) → all_made w2 s ≡ all_made w1 (in_front (map stmt_made block) h s))
    → all_made w2 (hand lines n) ≡ all_made w0 (or_of (map alternative_made xs) h n)
or-turn xs x block h n lines w0 w1 w2 split none is first second =
    let front = take (length xs - 1) xs in
    ap (λ (ls : List Stmt). all_made w2 (hand ls n)) none ∙ second (empty n) ∙ first (in_front (map stmt_made block) h (empty n))
    ∙ ap (λ (b : List Clause). all_made w0 (others (map alternative_made front) h (in_front (map stmt_made b) h (empty n)))) is
    ∙ ap (λ (m : BlockMaking). all_made w0 (others (map alternative_made front) h (m h n))) (sym (alternative-as x))
    ∙ ap (λ (s : Hand). all_made w0 s) (sym (or-last (map alternative_made front) (alternative_made x) h n))
    ∙ ap (λ (ms : List BlockMaking). all_made w0 (or_of ms h n)) (mapped-as alternative_made xs front x split)

pub one-more-turn : (xs : List Alternative) (x : Alternative) (inner : List Clause) (h : Continuation) (n m : Numbers) (name : ℕ) (lines made closed : List Stmt) (w0 w1 w2 w3 : List Waiting) → xs ≡ take (length xs - 1) xs ++ x ∷ [] → lines ≡ []
    → inner ≡ (out-Alternative x).block → name ≡ n.name → m ≡ one_name n → closed ≡ reverse made
    → ((s : Hand) → all_made w1 s ≡ all_made w0 (others (map alternative_made (take (length xs - 1) xs)) h s)) → ((s : Hand) → all_made w2 s ≡ all_made w1 (with_line (line.Failure name closed) s))
    → ((s : Hand) → all_made w3 s ≡ all_made w2 (in_front (map stmt_made inner) (continuation.Named name) s))
    → all_made w3 (hand lines m) ≡ all_made w0 (others (map alternative_made xs) h (hand made n))
one-more-turn xs x inner h n m name lines made closed w0 w1 w2 w3 split none is named next closes first second third =
    let front = take (length xs - 1) xs in
    let block : ℕ → List Clause → Numbers → Hand = λ k b o. in_front (map stmt_made b) (continuation.Named k) (empty o) in
    let whole : ℕ → List Stmt → Hand → Hand = λ k c t. all_alternatives front h (with_line (line.Failure k c) t) in
    ap (λ (ls : List Stmt). all_made w3 (hand ls m)) none ∙ third (empty m) ∙ second (block name inner m) ∙ first (with_line (line.Failure name closed) (block name inner m))
    ∙ ap (λ (o : Numbers). all_made w0 (whole name closed (block name inner o))) next
    ∙ ap (λ (k : ℕ). all_made w0 (whole k closed (block k inner (one_name n)))) named
    ∙ ap (λ (c : List Stmt). all_made w0 (whole n.name c (block n.name inner (one_name n)))) closes
    ∙ ap (λ (b : List Clause). all_made w0 (whole n.name (reverse made) (block n.name b (one_name n)))) is
    ∙ ap (λ (t : BlockMaking). all_made w0 (whole n.name (reverse made) (t (continuation.Named n.name) (one_name n)))) (sym (alternative-as x))
    ∙ ap (λ (s : Hand). all_made w0 s) (sym (others-last (map alternative_made front) (alternative_made x) h (hand made n)))
    ∙ ap (λ (ms : List BlockMaking). all_made w0 (others ms h (hand made n))) (mapped-as alternative_made xs front x split)

pub stmts-turn : (xs : List Clause) (x : Clause) (h : Continuation) (s t : Hand) (w0 w1 w2 : List Waiting) → xs ≡ take (length xs - 1) xs ++ x ∷ []
    → ((u : Hand) → all_made w1 u ≡ all_made w0 (in_front (map stmt_made (take (length xs - 1) xs)) h u)) → all_made w2 t ≡ all_made w1 (stmt_made x h s) → all_made w2 t ≡ all_made w0 (in_front (map stmt_made xs) h s)
stmts-turn xs x h s t w0 w1 w2 split first second =
    let front = take (length xs - 1) xs in
    second ∙ first (stmt_made x h s) ∙ ap (λ (u : Hand). all_made w0 u) (sym (in-front-last (map stmt_made front) (stmt_made x) h s))
    ∙ ap (λ (ms : List Making). all_made w0 (in_front ms h s)) (mapped-as stmt_made xs front x split)

length-as : (ps : List Pattern) → length (map pattern_made ps) ≡ length ps
length-as [] = refl
length-as (p ∷ ps) = ap suc (length-as ps)

one-longer : {A : Type 0} (xs : List A) (x : A) → length (xs ++ x ∷ []) ≡ suc (length xs)
one-longer [] x = refl
one-longer (y ∷ ys) x = ap suc (one-longer ys x)

front-length : (ps front : List Pattern) (p : Pattern) → ps ≡ front ++ p ∷ [] → length ps ≡ 1 + length (map pattern_made front)
front-length ps front p split = ap (λ (qs : List Pattern). length qs) split ∙ one-longer front p ∙ omega (arith, length-as front)

pub parts-turn : (ps : List Pattern) (p : Pattern) (x number : ℕ) (h : Continuation) (s t : Hand) (w0 w1 w2 : List Waiting) → ps ≡ take (length ps - 1) ps ++ p ∷ [] → number ≡ length ps
    → ((u : Hand) → all_made w1 u ≡ all_made w0 (parts_made (map pattern_made (take (length ps - 1) ps)) x 1 h u)) → all_made w2 t ≡ all_made w1 ((pattern_made p).part x number h s)
    → all_made w2 t ≡ all_made w0 (parts_made (map pattern_made ps) x 1 h s)
parts-turn ps p x number h s t w0 w1 w2 split counts first second =
    let front = take (length ps - 1) ps in
    second ∙ first ((pattern_made p).part x number h s)
    ∙ ap (λ (k : ℕ). all_made w0 (parts_made (map pattern_made front) x 1 h ((pattern_made p).part x k h s))) (counts ∙ front-length ps front p split)
    ∙ ap (λ (u : Hand). all_made w0 u) (sym (parts-last (map pattern_made front) (pattern_made p) x 1 h s))
    ∙ ap (λ (ms : List PatternMaking). all_made w0 (parts_made ms x 1 h s)) (mapped-as pattern_made ps front p split)

pub items-turn : (ps : List Pattern) (p : Pattern) (x first position place rest : ℕ) (h : Continuation) (lines behind : List Stmt) (n : Numbers) (t : Hand) (w0 w1 w2 w3 : List Waiting) → ps ≡ take (length ps - 1) ps ++ p ∷ []
    → position ≡ length (take (length ps - 1) ps) → place ≡ place_at x first position → rest ≡ first + position → behind ≡ lines ++ line.Field rest place 2 ∷ []
    → ((u : Hand) → all_made w1 u ≡ all_made w0 (items_made (map pattern_made (take (length ps - 1) ps)) x first h u)) → ((u : Hand) → all_made w2 u ≡ all_made w1 (tested (tag.Con CONS) place h u))
    → all_made w3 t ≡ all_made w2 ((pattern_made p).part place 1 h (hand behind n))
    → all_made w3 t ≡ all_made w0 (items_made (map pattern_made ps) x first h (hand lines n))
items-turn ps p x first position place rest h lines behind n t w0 w1 w2 w3 split counts at moves puts one two three =
    let front = take (length ps - 1) ps in
    let k = length (map pattern_made front) in
    let m = pattern_made p in
    let count : position ≡ k = counts ∙ sym (length-as front) in
    let item : ℕ → List Stmt → Hand = λ q b. items_made (map pattern_made front) x first h (tested (tag.Con CONS) q h (m.part q 1 h (hand b n))) in
    three ∙ two (m.part place 1 h (hand behind n)) ∙ one (tested (tag.Con CONS) place h (m.part place 1 h (hand behind n)))
    ∙ ap (λ (b : List Stmt). all_made w0 (item place b)) puts
    ∙ ap (λ (r : ℕ). all_made w0 (item place (lines ++ line.Field r place 2 ∷ []))) moves
    ∙ ap (λ (q : ℕ). all_made w0 (item q (lines ++ line.Field (first + position) q 2 ∷ []))) at
    ∙ ap (λ (c : ℕ). all_made w0 (item (place_at x first c) (lines ++ line.Field (first + c) (place_at x first c) 2 ∷ []))) count
    ∙ ap (λ (u : Hand). all_made w0 u) (sym (items-last (map pattern_made front) m x first h (hand lines n)))
    ∙ ap (λ (ms : List PatternMaking). all_made w0 (items_made ms x first h (hand lines n))) (mapped-as pattern_made ps front p split)

pub chain-turn : (ps : List Pattern) (p : Pattern) (x first position place : ℕ) (h : Continuation) (lines : List Stmt) (n m : Numbers) (w0 w1 w2 : List Waiting) → ps ≡ take (length ps - 1) ps ++ p ∷ []
    → position ≡ length (take (length ps - 1) ps) → first ≡ n.variable → m ≡ more_variables position n → place ≡ place_at x first position
    → ((u : Hand) → all_made w1 u ≡ all_made w0 (items_made (map pattern_made (take (length ps - 1) ps)) x first h u)) → ((u : Hand) → all_made w2 u ≡ all_made w1 ((pattern_made p).whole place h u))
    → all_made w2 (hand lines m) ≡ all_made w0 (chain_made (map pattern_made ps) x h (hand lines n))
chain-turn ps p x first position place h lines n m w0 w1 w2 split counts starts next at one two =
    let front = take (length ps - 1) ps in
    let k = length (map pattern_made front) in
    let tail = pattern_made p in
    let count : position ≡ k = counts ∙ sym (length-as front) in
    two (hand lines m) ∙ one (tail.whole place h (hand lines m))
    ∙ ap (λ (q : ℕ). all_made w0 (items_made (map pattern_made front) x first h (tail.whole q h (hand lines m)))) at
    ∙ ap (λ (o : Numbers). all_made w0 (items_made (map pattern_made front) x first h (tail.whole (place_at x first position) h (hand lines o)))) next
    ∙ ap (λ (c : ℕ). all_made w0 (items_made (map pattern_made front) x first h (tail.whole (place_at x first c) h (hand lines (more_variables c n))))) count
    ∙ ap (λ (v : ℕ). all_made w0 (items_made (map pattern_made front) x v h (tail.whole (place_at x v k) h (hand lines (more_variables k n))))) starts
    ∙ ap (λ (u : Hand). all_made w0 u) (sym (chain-last (map pattern_made front) tail x h (hand lines n)))
    ∙ ap (λ (ms : List PatternMaking). all_made w0 (chain_made ms x h (hand lines n))) (mapped-as pattern_made ps front p split)

case-as : (k : Choice) → case_made k ≡ case_at (map-Case Clause Alternative Choice Making BlockMaking CaseMaking stmt_made alternative_made case_made (out-Case k))
case-as k = ap case_made (sym (roll-out-Case k)) ∙ fold-roll-Case Making BlockMaking CaseMaking made_at alternative_at case_at (out-Case k)

pub case-turn : (ks : List Choice) (k : Choice) (block : List Clause) (x : ℕ) (h : Continuation) (otherwise lines : List Stmt) (cases : List Case) (n : Numbers) (w0 w1 w2 : List Waiting) → ks ≡ take (length ks - 1) ks ++ k ∷ [] → lines ≡ [] → block ≡ (out-Case k).block
    → ((u : Hand) → all_made w1 u ≡ all_made w0 (switched x otherwise (all_cases (map case_made (take (length ks - 1) ks)) x h (with_case (case_made k) x cases u)))) → ((u : Hand) → all_made w2 u ≡ all_made w1 (in_front (map stmt_made block) h u))
    → all_made w2 (hand lines n) ≡ all_made w0 (switched x otherwise (all_cases (map case_made ks) x h (cased cases n)))
case-turn ks k block x h otherwise lines cases n w0 w1 w2 split none is one two =
    let front = take (length ks - 1) ks in
    let m = case_made k in
    let rest : Hand → Hand = λ u. switched x otherwise (all_cases (map case_made front) x h (with_case m x cases u)) in
    ap (λ (ls : List Stmt). all_made w2 (hand ls n)) none ∙ two (empty n) ∙ one (in_front (map stmt_made block) h (empty n))
    ∙ ap (λ (b : List Clause). all_made w0 (rest (in_front (map stmt_made b) h (empty n)))) is
    ∙ ap (λ (c : CaseMaking). all_made w0 (rest (c.block h n))) (sym (case-as k))
    ∙ ap (λ (c : Cased). all_made w0 (switched x otherwise c)) (sym (cases-last (map case_made front) m x h (cased cases n)))
    ∙ ap (λ (ms : List CaseMaking). all_made w0 (switched x otherwise (all_cases ms x h (cased cases n)))) (mapped-as case_made ks front k split)

pub cond-turn : (name : ℕ) (first front second : List Clause) (h : Continuation) (n : Numbers) (made closed lines : List Stmt) (w0 w1 w2 w3 : List Waiting) → closed ≡ reverse made → lines ≡ []
    → ((k : Continuation) (u : Hand) → in_front (map stmt_made front) k u ≡ in_front (all_but_last (map stmt_made first)) k u)
    → ((u : Hand) → all_made w1 u ≡ all_made w0 (with_line (line.Failure name closed) u)) → ((u : Hand) → all_made w2 u ≡ all_made w1 (in_front (map stmt_made front) (continuation.Named name) u))
    → ((u : Hand) → all_made w3 u ≡ all_made w2 (in_front (map stmt_made second) h u))
    → all_made w3 (hand lines n) ≡ all_made w0 (cond_rest name (map stmt_made first) (map stmt_made second) h (hand made n))
cond-turn name first front second h n made closed lines w0 w1 w2 w3 closes none fronts one two three =
    let answered = block_of (map stmt_made second) h n in
    ap (λ (ls : List Stmt). all_made w3 (hand ls n)) none ∙ three (empty n) ∙ two answered ∙ one (in_front (map stmt_made front) (continuation.Named name) answered)
    ∙ ap (λ (t : Hand). all_made w0 (with_line (line.Failure name closed) t)) (fronts (continuation.Named name) answered)
    ∙ ap (λ (c : List Stmt). all_made w0 (with_line (line.Failure name c) (in_front (all_but_last (map stmt_made first)) (continuation.Named name) answered))) closes

-- ---- work

-- what an alternative counts
pub alternative-sized : (a : Alternative) → alternative_size a ≡ 1 + sum_by size (out-Alternative a).block
alternative-sized a = ap alternative_size (sym (roll-out-Alternative a)) ∙ fold-roll-Alternative ℕ ℕ ℕ size_at alternative_size_at case_size_at (out-Alternative a) ∙ ap (λ k. 1 + k) (sum-map size (out-Alternative a).block)

-- and a case, at least
pub case-sized : (k : Choice) → 1 + sum_by size (out-Case k).block ≤ case_size k
case-sized k =
    let layer = ap case_size (sym (roll-out-Case k)) ∙ fold-roll-Case ℕ ℕ ℕ size_at alternative_size_at case_size_at (out-Case k) in
    let block : sum (map size (out-Case k).block) ≡ sum_by size (out-Case k).block = sum-map size (out-Case k).block in
    omega (arith, layer)

-- the last alternative's block and a few lines are less work than the alternative
pub alternatives-work : (xs : List Alternative) (x : Alternative) (block : List Clause) (before after : ℕ) → xs ≡ take (length xs - 1) xs ++ x ∷ [] → block ≡ (out-Alternative x).block
    → after ≤ 4 + 8 * sum_by alternative_size (take (length xs - 1) xs) + 8 * sum_by size block + before → after < others_work xs + before
alternatives-work xs x block before after split is h =
    let all : sum_by alternative_size xs ≡ sum_by alternative_size (take (length xs - 1) xs) + alternative_size x = sum-last alternative_size xs (take (length xs - 1) xs) x split in
    let one : alternative_size x ≡ 1 + sum_by size (out-Alternative x).block = alternative-sized x in
    let same : sum_by size block ≡ sum_by size (out-Alternative x).block = ap (λ (b : List Clause). sum_by size b) is in
    omega arith

pub cases-work : (ks : List Choice) (k : Choice) (block : List Clause) (before after : ℕ) → ks ≡ take (length ks - 1) ks ++ k ∷ [] → block ≡ (out-Case k).block
    → after ≤ 4 + 8 * sum_by case_size (take (length ks - 1) ks) + 8 * sum_by size block + before → after ≤ cases_work ks + before
cases-work ks k block before after split is h =
    let all : sum_by case_size ks ≡ sum_by case_size (take (length ks - 1) ks) + case_size k = sum-last case_size ks (take (length ks - 1) ks) k split in
    let one : 1 + sum_by size (out-Case k).block ≤ case_size k = case-sized k in
    let same : sum_by size block ≡ sum_by size (out-Case k).block = ap (λ (b : List Clause). sum_by size b) is in
    omega arith
