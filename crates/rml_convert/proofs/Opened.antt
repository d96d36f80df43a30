-- What is made of a pattern and of a statement, and what they count, by what they are.
use Rattle.std.proofs.Common.{◌≡◌, ℕ, ◌+◌, ◌*◌, ◌<◌, ◌≤◌, List, [], ◌∷◌, ◌++◌, map, sym, ap, ◌∙◌, arith}
use Rattle.std.specs.Prelude.{sum, sum_by}
use Rattle.std.proofs.lemmas.List.Sums.{sum-map}
use Rattle.rml_fol.specs.declared.terms.Pattern.{Pattern, map-Pattern, roll-Pattern, fold-roll-Pattern}
use Rattle.rml_fol.specs.declared.terms.Pattern.TheOpen.{Pattern-F}
use Rattle.rml_fol.specs.declared.terms.Pattern.TheVariants as pattern
use Rattle.rml_fol.specs.declared.terms.Expression.{Expression}
use Rattle.rml_fol.specs.declared.statements.Callee.{Callee}
use Rattle.rml_fol.specs.declared.statements.Tag.TheVariants as tag
use Rattle.rml_fol.specs.declared.statements.Stmt.TheVariants as clause
use Rattle.rml_fol.specs.declared.statements.Stmt.{Stmt as Clause, map-Stmt as map-Clause, roll-Stmt as roll-Clause, fold-roll-Stmt as fold-roll-Clause}
use Rattle.rml_fol.specs.declared.statements.Stmt.TheOpen.{Stmt-F as Clause-F}
use Rattle.rml_fol.specs.declared.statements.Alternative.{Alternative}
use Rattle.rml_fol.specs.declared.statements.Case.{Case as Choice}
use Rattle.rml_fol.specs.Size.{pattern_nodes, pattern_nodes_at, size, size_at, alternative_size, alternative_size_at, case_size, case_size_at}
use Rattle.rml_cps.specs.declared.statements.Continuation.{Continuation}
use Rattle.rml_cps.specs.declared.statements.Continuation.TheVariants as continuation
use Rattle.rml_cps.specs.declared.statements.Stmt.{Stmt}
use Rattle.rml_cps.specs.declared.statements.Stmt.TheVariants as line
use Rattle.rml_tocps.specs.declared.pass.numbers.Numbers.{Numbers}
use Rattle.rml_convert.specs.declared.waiting.Waiting.{Waiting}
use Rattle.rml_conversion.specs.Hand.{Hand, Making, hand, one_name, tested}
use Rattle.rml_conversion.specs.Patterns.{PatternMaking, pattern_at, pattern_made, parts_made, list_made, chain_made}
use Rattle.rml_conversion.specs.Statements.{BlockMaking, CaseMaking, block_of, called, negated, or_of, cond_of, switch_rest, named, made_at, alternative_at, case_at, stmt_made, alternative_made, case_made}
use Rattle.rml_convert.specs.Waiting.{all_made, patterns_work}

-- ---- patterns

opened : (p : Pattern) (y : Pattern-F Pattern) → roll-Pattern y ≡ p → pattern_made p ≡ pattern_at (map-Pattern Pattern PatternMaking pattern_made y)
opened p y e = ap pattern_made (sym e) ∙ fold-roll-Pattern PatternMaking pattern_at y

counted : (p : Pattern) (y : Pattern-F Pattern) → roll-Pattern y ≡ p → pattern_nodes p ≡ pattern_nodes_at (map-Pattern Pattern ℕ pattern_nodes y)
counted p y e = ap pattern_nodes (sym e) ∙ fold-roll-Pattern ℕ pattern_nodes_at y

pub con-nodes : (p : Pattern) (k : ℕ) (ps : List Pattern) → p ≡ pattern.Con k ps → pattern_nodes p ≡ 1 + sum_by pattern_nodes ps
con-nodes p k ps is = counted p (Pattern-F.Con k ps) (pattern.rolls-Con k ps ∙ sym is) ∙ ap (λ n. 1 + n) (sum-map pattern_nodes ps)

pub tuple-nodes : (p : Pattern) (ps : List Pattern) → p ≡ pattern.Tuple ps → pattern_nodes p ≡ 1 + sum_by pattern_nodes ps
tuple-nodes p ps is = counted p (Pattern-F.Tuple ps) (pattern.rolls-Tuple ps ∙ sym is) ∙ ap (λ n. 1 + n) (sum-map pattern_nodes ps)

pub list-nodes : (p : Pattern) (ps : List Pattern) → p ≡ pattern.List ps → pattern_nodes p ≡ 1 + sum_by pattern_nodes ps
list-nodes p ps is = counted p (Pattern-F.List ps) (pattern.rolls-List ps ∙ sym is) ∙ ap (λ n. 1 + n) (sum-map pattern_nodes ps)

pub chain-nodes : (p : Pattern) (ps : List Pattern) → p ≡ pattern.Cons ps → pattern_nodes p ≡ 1 + sum_by pattern_nodes ps
chain-nodes p ps is = counted p (Pattern-F.Cons ps) (pattern.rolls-Cons ps ∙ sym is) ∙ ap (λ n. 1 + n) (sum-map pattern_nodes ps)

-- parts that wait, and one line, are less work than their pattern
pub parts-work : (p : Pattern) (ps qs : List Pattern) (before after : ℕ) → pattern_nodes p ≡ 1 + sum_by pattern_nodes ps → qs ≡ ps → after ≤ 1 + patterns_work qs + before → after + 4 ≤ 8 * pattern_nodes p + before
parts-work p ps qs before after nodes same h =
    let e : sum_by pattern_nodes qs ≡ sum_by pattern_nodes ps = ap (λ rs. sum_by pattern_nodes rs) same in
    omega arith

pub con-turn : (p : Pattern) (k x : ℕ) (ps qs : List Pattern) (h : Continuation) (s : Hand) (w0 w1 w2 : List Waiting) → p ≡ pattern.Con k ps → qs ≡ ps
    → ((u : Hand) → all_made w1 u ≡ all_made w0 (tested (tag.Con k) x h u)) → ((u : Hand) → all_made w2 u ≡ all_made w1 (parts_made (map pattern_made qs) x 1 h u))
    → all_made w2 s ≡ all_made w0 ((pattern_made p).whole x h s)
con-turn p k x ps qs h s w0 w1 w2 is same one two =
    two s ∙ one (parts_made (map pattern_made qs) x 1 h s)
    ∙ ap (λ (rs : List Pattern). all_made w0 (tested (tag.Con k) x h (parts_made (map pattern_made rs) x 1 h s))) same
    ∙ ap (λ (m : PatternMaking). all_made w0 (m.whole x h s)) (sym (opened p (Pattern-F.Con k ps) (pattern.rolls-Con k ps ∙ sym is)))

pub list-turn : (p : Pattern) (x : ℕ) (ps qs : List Pattern) (h : Continuation) (s t : Hand) (w0 w1 : List Waiting) → p ≡ pattern.List ps → qs ≡ ps
    → all_made w1 t ≡ all_made w0 (list_made (map pattern_made qs) x h s) → all_made w1 t ≡ all_made w0 ((pattern_made p).whole x h s)
list-turn p x ps qs h s t w0 w1 is same one =
    one ∙ ap (λ (rs : List Pattern). all_made w0 (list_made (map pattern_made rs) x h s)) same
    ∙ ap (λ (m : PatternMaking). all_made w0 (m.whole x h s)) (sym (opened p (Pattern-F.List ps) (pattern.rolls-List ps ∙ sym is)))

pub whole-chain-turn : (p : Pattern) (x : ℕ) (ps qs : List Pattern) (h : Continuation) (s t : Hand) (w0 w1 : List Waiting) → p ≡ pattern.Cons ps → qs ≡ ps
    → all_made w1 t ≡ all_made w0 (chain_made (map pattern_made qs) x h s) → all_made w1 t ≡ all_made w0 ((pattern_made p).whole x h s)
whole-chain-turn p x ps qs h s t w0 w1 is same one =
    one ∙ ap (λ (rs : List Pattern). all_made w0 (chain_made (map pattern_made rs) x h s)) same
    ∙ ap (λ (m : PatternMaking). all_made w0 (m.whole x h s)) (sym (opened p (Pattern-F.Cons ps) (pattern.rolls-Cons ps ∙ sym is)))

-- ---- statements

-- what is made of a statement, by its layer
pub stmt-as : (x : Clause) (y : Clause-F Clause Alternative Choice) → roll-Clause y ≡ x → stmt_made x ≡ made_at (map-Clause Clause Alternative Choice Making BlockMaking CaseMaking stmt_made alternative_made case_made y)
stmt-as x y e = ap stmt_made (sym e) ∙ fold-roll-Clause Making BlockMaking CaseMaking made_at alternative_at case_at y

-- and what it counts
pub stmt-sized : (x : Clause) (y : Clause-F Clause Alternative Choice) → roll-Clause y ≡ x → size x ≡ size_at (map-Clause Clause Alternative Choice ℕ ℕ ℕ size alternative_size case_size y)
stmt-sized x y e = ap size (sym e) ∙ fold-roll-Clause ℕ ℕ ℕ size_at alternative_size_at case_size_at y

stmt-turn : (x : Clause) (y : Clause-F Clause Alternative Choice) (h : Continuation) (s : Hand) (w : List Waiting) (t : Hand) → roll-Clause y ≡ x
    → t ≡ all_made w (made_at (map-Clause Clause Alternative Choice Making BlockMaking CaseMaking stmt_made alternative_made case_made y) h s) → t ≡ all_made w (stmt_made x h s)
stmt-turn x y h s w t e made = made ∙ ap (λ (m : Making). all_made w (m h s)) (sym (stmt-as x y e))

pub match-turn : (x : Clause) (y : ℕ) (p : Pattern) (h : Continuation) (s : Hand) (w : List Waiting) (t : Hand) → x ≡ clause.Match y p → t ≡ all_made w ((pattern_made p).whole y h s) → t ≡ all_made w (stmt_made x h s)
match-turn x y p h s w t is made = stmt-turn x (Clause-F.Match y p) h s w t (clause.rolls-Match y p ∙ sym is) made

pub set-turn : (x : Clause) (y : ℕ) (e copy : Expression) (h : Continuation) (lines more : List Stmt) (n : Numbers) (w : List Waiting) → x ≡ clause.Set y e → copy ≡ e → more ≡ lines ++ line.Set y copy ∷ []
    → all_made w (hand more n) ≡ all_made w (stmt_made x h (hand lines n))
set-turn x y e copy h lines more n w is same made =
    stmt-turn x (Clause-F.Set y e) h (hand lines n) w (all_made w (hand more n)) (clause.rolls-Set y e ∙ sym is)
    (ap (λ (ls : List Stmt). all_made w (hand ls n)) made ∙ ap (λ (c : Expression). all_made w (hand (lines ++ line.Set y c ∷ []) n)) same)

pub call-turn : (x : Clause) (f : Callee) (xs ys us vs : List ℕ) (h : Continuation) (s t : Hand) (w : List Waiting) → x ≡ clause.Call f xs ys → us ≡ xs → vs ≡ ys → t ≡ called f us vs h s → all_made w t ≡ all_made w (stmt_made x h s)
call-turn x f xs ys us vs h s t w is first second made =
    stmt-turn x (Clause-F.Call f xs ys) h s w (all_made w t) (clause.rolls-Call f xs ys ∙ sym is)
    (ap (λ (u : Hand). all_made w u) made ∙ ap (λ (zs : List ℕ). all_made w (called f zs vs h s)) first ∙ ap (λ (zs : List ℕ). all_made w (called f xs zs h s)) second)

pub built-in-turn : (x : Clause) (k : ℕ) (xs ys us vs : List ℕ) (h : Continuation) (lines more : List Stmt) (n : Numbers) (w : List Waiting) → x ≡ clause.Builtin k xs ys → us ≡ xs → vs ≡ ys → more ≡ lines ++ line.Builtin k us vs h ∷ []
    → all_made w (hand more n) ≡ all_made w (stmt_made x h (hand lines n))
built-in-turn x k xs ys us vs h lines more n w is first second made =
    stmt-turn x (Clause-F.Builtin k xs ys) h (hand lines n) w (all_made w (hand more n)) (clause.rolls-Builtin k xs ys ∙ sym is)
    (ap (λ (ls : List Stmt). all_made w (hand ls n)) made ∙ ap (λ (zs : List ℕ). all_made w (hand (lines ++ line.Builtin k zs vs h ∷ []) n)) first
    ∙ ap (λ (zs : List ℕ). all_made w (hand (lines ++ line.Builtin k xs zs h ∷ []) n)) second)

pub equal-turn : (x : Clause) (y z : ℕ) (h : Continuation) (lines more : List Stmt) (n : Numbers) (w : List Waiting) → x ≡ clause.Equal y z → more ≡ lines ++ line.Equal y z h ∷ []
    → all_made w (hand more n) ≡ all_made w (stmt_made x h (hand lines n))
equal-turn x y z h lines more n w is made =
    stmt-turn x (Clause-F.Equal y z) h (hand lines n) w (all_made w (hand more n)) (clause.rolls-Equal y z ∙ sym is) (ap (λ (ls : List Stmt). all_made w (hand ls n)) made)

pub not-turn : (x : Clause) (goal block : List Clause) (h : Continuation) (s t : Hand) (w : List Waiting) → x ≡ clause.Not goal → block ≡ goal → t ≡ all_made w (negated (map stmt_made block) h s) → t ≡ all_made w (stmt_made x h s)
not-turn x goal block h s t w is same made =
    stmt-turn x (Clause-F.Not goal) h s w t (clause.rolls-Not goal ∙ sym is) (made ∙ ap (λ (b : List Clause). all_made w (negated (map stmt_made b) h s)) same)

pub or-as-turn : (x : Clause) (all some : List Alternative) (h : Continuation) (s t : Hand) (w : List Waiting) → x ≡ clause.Or all → some ≡ all → t ≡ all_made w (or_of (map alternative_made some) h s.numbers) → t ≡ all_made w (stmt_made x h s)
or-as-turn x all some h s t w is same made =
    stmt-turn x (Clause-F.Or all) h s w t (clause.rolls-Or all ∙ sym is) (made ∙ ap (λ (b : List Alternative). all_made w (or_of (map alternative_made b) h s.numbers)) same)

pub cond-as-turn : (x : Clause) (a b c u v z : List Clause) (h : Continuation) (s t : Hand) (w : List Waiting) → x ≡ clause.Cond a b c → u ≡ a → v ≡ b → z ≡ c
    → t ≡ all_made w (cond_of (map stmt_made u) (map stmt_made v) (map stmt_made z) h s.numbers) → t ≡ all_made w (stmt_made x h s)
cond-as-turn x a b c u v z h s t w is one two three made =
    stmt-turn x (Clause-F.Cond a b c) h s w t (clause.rolls-Cond a b c ∙ sym is)
    (made ∙ ap (λ (k : List Clause). all_made w (cond_of (map stmt_made k) (map stmt_made v) (map stmt_made z) h s.numbers)) one
    ∙ ap (λ (k : List Clause). all_made w (cond_of (map stmt_made a) (map stmt_made k) (map stmt_made z) h s.numbers)) two
    ∙ ap (λ (k : List Clause). all_made w (cond_of (map stmt_made a) (map stmt_made b) (map stmt_made k) h s.numbers)) three)

pub switch-turn : (x : Clause) (y : ℕ) (ks some : List Choice) (b block : List Clause) (h : Continuation) (s t : Hand) (w : List Waiting) → x ≡ clause.Switch y ks b → some ≡ ks → block ≡ b
    → t ≡ all_made w (switch_rest y (map case_made some) h (block_of (map stmt_made block) h s.numbers)) → t ≡ all_made w (stmt_made x h s)
switch-turn x y ks some b block h s t w is one two made =
    stmt-turn x (Clause-F.Switch y ks b) h s w t (clause.rolls-Switch y ks b ∙ sym is)
    (made ∙ ap (λ (k : List Choice). all_made w (switch_rest y (map case_made k) h (block_of (map stmt_made block) h s.numbers))) one
    ∙ ap (λ (k : List Clause). all_made w (switch_rest y (map case_made ks) h (block_of (map stmt_made k) h s.numbers))) two)

pub body-turn : (x : Clause) (j : ℕ) (xs us : List ℕ) (b block : List Clause) (h : Continuation) (s t : Hand) (w : List Waiting) → x ≡ clause.Body j xs b → us ≡ xs → block ≡ b
    → t ≡ all_made w (named j us s.numbers.name s.lines (block_of (map stmt_made block) (continuation.Named s.numbers.name) (one_name s.numbers))) → t ≡ all_made w (stmt_made x h s)
body-turn x j xs us b block h s t w is one two made =
    stmt-turn x (Clause-F.Body j xs b) h s w t (clause.rolls-Body j xs b ∙ sym is)
    (made ∙ ap (λ (zs : List ℕ). all_made w (named j zs s.numbers.name s.lines (block_of (map stmt_made block) (continuation.Named s.numbers.name) (one_name s.numbers)))) one
    ∙ ap (λ (k : List Clause). all_made w (named j xs s.numbers.name s.lines (block_of (map stmt_made k) (continuation.Named s.numbers.name) (one_name s.numbers)))) two)

-- a copy of a copy
pub goto-turn : (x : Clause) (j : ℕ) (xs us vs : List ℕ) (h : Continuation) (lines more : List Stmt) (n : Numbers) (w : List Waiting) → x ≡ clause.Goto j xs → us ≡ xs → vs ≡ us → more ≡ line.Goto j vs h ∷ []
    → all_made w (hand more n) ≡ all_made w (stmt_made x h (hand lines n))
goto-turn x j xs us vs h lines more n w is one two made =
    stmt-turn x (Clause-F.Goto j xs) h (hand lines n) w (all_made w (hand more n)) (clause.rolls-Goto j xs ∙ sym is)
    (ap (λ (ls : List Stmt). all_made w (hand ls n)) made ∙ ap (λ (zs : List ℕ). all_made w (hand (line.Goto j zs h ∷ []) n)) (two ∙ one))

pub give-turn : (x : Clause) (xs us vs : List ℕ) (h : Continuation) (lines more : List Stmt) (n : Numbers) (w : List Waiting) → x ≡ clause.Give xs → us ≡ xs → vs ≡ us → more ≡ line.Answer continuation.Own vs ∷ []
    → all_made w (hand more n) ≡ all_made w (stmt_made x h (hand lines n))
give-turn x xs us vs h lines more n w is one two made =
    stmt-turn x (Clause-F.Give xs) h (hand lines n) w (all_made w (hand more n)) (clause.rolls-Give xs ∙ sym is)
    (ap (λ (ls : List Stmt). all_made w (hand ls n)) made ∙ ap (λ (zs : List ℕ). all_made w (hand (line.Answer continuation.Own zs ∷ []) n)) (two ∙ one))

pub fail-turn : (x : Clause) (h : Continuation) (lines more : List Stmt) (n : Numbers) (w : List Waiting) → x ≡ clause.Fail → more ≡ line.Fail h ∷ [] → all_made w (hand more n) ≡ all_made w (stmt_made x h (hand lines n))
fail-turn x h lines more n w is made =
    stmt-turn x Clause-F.Fail h (hand lines n) w (all_made w (hand more n)) (clause.rolls-Fail ∙ sym is) (ap (λ (ls : List Stmt). all_made w (hand ls n)) made)

-- ---- what statements count

pub match-size : (x : Clause) (y : ℕ) (p : Pattern) → x ≡ clause.Match y p → size x ≡ 1 + pattern_nodes p
match-size x y p is = stmt-sized x (Clause-F.Match y p) (clause.rolls-Match y p ∙ sym is)

-- any statement counts at least one
pub some-size : (x : Clause) (y : Clause-F Clause Alternative Choice) (w v : ℕ) → roll-Clause y ≡ x → size_at (map-Clause Clause Alternative Choice ℕ ℕ ℕ size alternative_size case_size y) ≡ 1 → w ≡ v → w < 8 * size x + v
some-size x y w v e one same =
    let all : size x ≡ size_at (map-Clause Clause Alternative Choice ℕ ℕ ℕ size alternative_size case_size y) = stmt-sized x y e in
    omega arith

pub not-size : (x : Clause) (goal block : List Clause) → x ≡ clause.Not goal → block ≡ goal → size x ≡ 1 + sum_by size block
not-size x goal block is same =
    stmt-sized x (Clause-F.Not goal) (clause.rolls-Not goal ∙ sym is) ∙ ap (λ k. 1 + k) (sum-map size goal ∙ ap (λ (b : List Clause). sum_by size b) (sym same))

pub or-size : (x : Clause) (all some : List Alternative) → x ≡ clause.Or all → some ≡ all → size x ≡ 1 + sum_by alternative_size some
or-size x all some is same =
    stmt-sized x (Clause-F.Or all) (clause.rolls-Or all ∙ sym is) ∙ ap (λ k. 1 + k) (sum-map alternative_size all ∙ ap (λ (b : List Alternative). sum_by alternative_size b) (sym same))

pub cond-size : (x : Clause) (a b c u v z : List Clause) → x ≡ clause.Cond a b c → u ≡ a → v ≡ b → z ≡ c → size x ≡ 1 + sum_by size u + sum_by size v + sum_by size z
cond-size x a b c u v z is one two three =
    let all : size x ≡ 1 + sum (map size a) + sum (map size b) + sum (map size c) = stmt-sized x (Clause-F.Cond a b c) (clause.rolls-Cond a b c ∙ sym is) in
    let first : sum (map size a) ≡ sum_by size u = sum-map size a ∙ ap (λ (k : List Clause). sum_by size k) (sym one) in
    let second : sum (map size b) ≡ sum_by size v = sum-map size b ∙ ap (λ (k : List Clause). sum_by size k) (sym two) in
    let third : sum (map size c) ≡ sum_by size z = sum-map size c ∙ ap (λ (k : List Clause). sum_by size k) (sym three) in
    omega arith

pub switch-size : (x : Clause) (y : ℕ) (ks some : List Choice) (b block : List Clause) → x ≡ clause.Switch y ks b → some ≡ ks → block ≡ b → size x ≡ 1 + sum_by case_size some + sum_by size block
switch-size x y ks some b block is one two =
    let all : size x ≡ 1 + sum (map case_size ks) + sum (map size b) = stmt-sized x (Clause-F.Switch y ks b) (clause.rolls-Switch y ks b ∙ sym is) in
    let first : sum (map case_size ks) ≡ sum_by case_size some = sum-map case_size ks ∙ ap (λ (k : List Choice). sum_by case_size k) (sym one) in
    let second : sum (map size b) ≡ sum_by size block = sum-map size b ∙ ap (λ (k : List Clause). sum_by size k) (sym two) in
    omega arith

pub body-size : (x : Clause) (j : ℕ) (xs : List ℕ) (b block : List Clause) → x ≡ clause.Body j xs b → block ≡ b → size x ≡ 1 + sum_by size block
body-size x j xs b block is same =
    stmt-sized x (Clause-F.Body j xs b) (clause.rolls-Body j xs b ∙ sym is) ∙ ap (λ k. 1 + k) (sum-map size b ∙ ap (λ (k : List Clause). sum_by size k) (sym same))
