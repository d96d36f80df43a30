-- A spelling that is read a byte at a time: where the bytes before a place have led.
use Rattle.std.proofs.Common.{◌≡◌, ℕ, suc, ◌+◌, ◌-◌, ◌<◌, ◌≤◌, List, [], ◌∷◌, length, take, drop, get_or, refl, sym, ◌∙◌, arith, None, add-one, add-zero, zero-add}
use Rattle.std.proofs.Math.Seq.{drop-cons}
use Rattle.rml_lex.specs.declared.piece.Piece.{Piece}
use Rattle.rml_lex.specs.declared.machine.Move.{Move}
use Rattle.rml_lex.specs.declared.machine.Move.TheVariants.{On, Done, Dead}
use Rattle.rml_lex.specs.Machine.{ends, whole_from, Longest}

module _ {S : Type 0} (stop : S → Piece) (step : S → ℕ → Move S) where
  -- from first, the bytes before i lead to s
  pub record Leads (first : S) (bytes : List ℕ) (i : ℕ) (s : S) : Type 0 where
    pub within : i ≤ length bytes
    pub same : (m : ℕ) → i + m ≤ length bytes → whole_from stop step first (take (i + m) bytes) ≡ whole_from stop step s (take m (drop i bytes))

  pub begins : (first : S) (bytes : List ℕ) → Leads first bytes 0 first
  begins first bytes = record { within = omega arith; same = λ m h. rw zero-add refl }

  split : (bytes : List ℕ) (i m : ℕ) → i < length bytes → take (suc m) (drop i bytes) ≡ get_or bytes i 0 ∷ take m (drop (i + 1) bytes)
  split bytes i m h = rw (add-one, drop-cons bytes i 0 h) refl

  one-on : (s next : S) (b : ℕ) (bs : List ℕ) → step s b ≡ On next → whole_from stop step s (b ∷ bs) ≡ whole_from stop step next bs
  one-on s next b bs e = rw (e, whole_from) refl

  one-done : (s : S) (p : Piece) (b : ℕ) (bs : List ℕ) → step s b ≡ Done p → whole_from stop step s (b ∷ bs) ≡ ends p bs
  one-done s p b bs e = rw (e, whole_from) refl

  one-dead : (s : S) (b : ℕ) (bs : List ℕ) → step s b ≡ Dead → whole_from stop step s (b ∷ bs) ≡ None
  one-dead s b bs e = rw (e, whole_from) refl

  module _ (first s : S) (bytes : List ℕ) (i : ℕ) (leads : Leads first bytes i s) where
    further : (m : ℕ) → i < length bytes → i + 1 + m ≤ length bytes
        → whole_from stop step first (take (i + 1 + m) bytes) ≡ whole_from stop step s (get_or bytes i 0 ∷ take m (drop (i + 1) bytes))
    further m h room =
        let e : i + 1 + m ≡ i + suc m = omega arith in
        rw e (leads.same (suc m) (omega arith) ∙ rw (split bytes i m h) refl)

    pub goes-on : (next : S) → i < length bytes → step s (get_or bytes i 0) ≡ On next → Leads first bytes (i + 1) next
    goes-on next h e = record {
      within = omega arith;
      same = λ m room. further m h room ∙ one-on s next _ _ e;
    }

    pub stops : i ≡ length bytes → Longest (whole_from stop step first) bytes i (stop s)
    stops e = record {
      within = leads.within;
      spelled = (let e' : i ≡ i + 0 = sym (add-zero i) in rw e' (leads.same 0 (omega arith)));
      longer = λ m lt le. absurd (omega arith);
    }

    -- whatever follows a byte that ends the spelling
    after_done : (p : Piece) (m : ℕ) → step s (get_or bytes i 0) ≡ Done p → i + 1 < m → m ≤ length bytes → whole_from stop step first (take m bytes) ≡ None
    after_done p m e lt le =
        let k = m - (i + 1) - 1 in
        let is : m ≡ i + 1 + suc k = omega arith in
        let more : i + 1 < length bytes = omega arith in
        rw is (further (suc k) (omega arith) (omega arith) ∙ one-done s p _ _ e ∙ (rw (split bytes (i + 1) k more) refl))

    pub done : (p : Piece) → i < length bytes → step s (get_or bytes i 0) ≡ Done p → Longest (whole_from stop step first) bytes (i + 1) p
    done p h e = record {
      within = omega arith;
      spelled = (let z : i + 1 ≡ i + 1 + 0 = sym (add-zero (i + 1)) in rw z (further 0 h (omega arith) ∙ one-done s p _ [] e));
      longer = λ m lt le. after_done p m e lt le;
    }

    after_dead : (m : ℕ) → step s (get_or bytes i 0) ≡ Dead → i < m → m ≤ length bytes → whole_from stop step first (take m bytes) ≡ None
    after_dead m e lt le =
        let k = m - i - 1 in
        let is : m ≡ i + 1 + k = omega arith in
        rw is (further k (omega arith) (omega arith) ∙ one-dead s _ _ e)

    pub dead : i < length bytes → step s (get_or bytes i 0) ≡ Dead → Longest (whole_from stop step first) bytes i (stop s)
    dead h e = record {
      within = leads.within;
      spelled = (let z : i ≡ i + 0 = sym (add-zero i) in rw z (leads.same 0 (omega arith)));
      longer = λ m lt le. after_dead m e lt le;
    }
