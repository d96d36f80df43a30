-- A step of the search for what is reached, and its end.
use Rattle.std.proofs.Common.{◌≡◌, ℕ, ◌+◌, ◌<◌, ◌≤◌, Bool, true, false, List, [], ◌∷◌, ◌++◌, length, get_or, sym, ◌∙◌, arith, inl, inr, subst, Contains, length-append}
use Rattle.std.specs.Prelude.{replicate}
use Rattle.std.proofs.Math.ListN.{set}
use Rattle.std.proofs.lemmas.List.{length-set, length-replicate}
use Rattle.std.proofs.lemmas.List.Elements.{Contains-append_left, Contains-append_right, Contains-append_cases, Contains-push, Contains-push_cases}
use Rattle.rml_reach.specs.Left.{left}
use Rattle.rml_reach.specs.Paths.{HasEdge, Holds, IsGraph, IsReachedFrom, Path, Here, Along}
use Rattle.rml_reach.specs.WorkList.{IsKnown, IsWorkList}
use Rattle.rml_reach.proofs.Along.{further}
use Rattle.rml_reach.proofs.Lists.{holds-cases, holds-new, holds-still, left-falls, none-holds}

module _ (edges : List (List ℕ)) (from : List ℕ) (seen : List Bool) (waiting : List ℕ) (node : ℕ) (graph : IsGraph edges) (w : IsWorkList edges from seen (waiting ++ node ∷ [])) where
  pub node-within : node < length edges
  node-within = w.within node (Contains-push waiting node)

  module _ (held : Holds seen node) where
    known-still : (n : ℕ) → IsKnown seen (waiting ++ node ∷ []) n → IsKnown seen waiting n
    known-still n (inl h) = inl h
    known-still n (inr c) = elim (Contains-push_cases waiting node n c) [
      | inl d ↦ inr d
      | inr e ↦ inl (subst (Holds seen) e held)
    ]

    pub passed : IsWorkList edges from seen waiting
    passed = record {
      count = w.count;
      within = λ n c. w.within n (Contains-append_left waiting (node ∷ []) n c);
      seen_is = w.seen_is;
      waits = λ n c. w.waits n (Contains-append_left waiting (node ∷ []) n c);
      begun = λ n c. known-still n (w.begun n c);
      closed = λ n m h e. known-still m (w.closed n m h e);
    }

  module _ (new : get_or seen node false ≡ false) where
    node-marked : node < length seen
    node-marked = let a = node-within in let b = w.count in omega arith

    known-next : (n : ℕ) → IsKnown seen (waiting ++ node ∷ []) n → IsKnown (set seen node true) (waiting ++ get_or edges node []) n
    known-next n (inl h) = inl (holds-still seen node n node-marked h)
    known-next n (inr c) = elim (Contains-push_cases waiting node n c) [
      | inl d ↦ inr (Contains-append_left waiting (get_or edges node []) n d)
      | inr e ↦ inl (subst (Holds (set seen node true)) e (holds-new seen node node-marked))
    ]

    reached-next : (m : ℕ) → HasEdge edges node m → IsReachedFrom edges from m
    reached-next m e = let r = w.waits node (Contains-push waiting node) in (r.0, r.1, further r.0 node m r.2 e)

    pub looked : IsWorkList edges from (set seen node true) (waiting ++ get_or edges node [])
    looked = record {
      count = length-set seen node true ∙ w.count;
      within = λ n c. elim (Contains-append_cases waiting (get_or edges node []) n c) [
        | inl d ↦ w.within n (Contains-append_left waiting (node ∷ []) n d)
        | inr e ↦ graph.within node n e
      ];
      seen_is = λ n h. elim (holds-cases seen node n h) [
        | inl e ↦ subst (IsReachedFrom edges from) (sym e) (w.waits node (Contains-push waiting node))
        | inr h' ↦ w.seen_is n h'
      ];
      waits = λ n c. elim (Contains-append_cases waiting (get_or edges node []) n c) [
        | inl d ↦ w.waits n (Contains-append_left waiting (node ∷ []) n d)
        | inr e ↦ reached-next n e
      ];
      begun = λ n c. known-next n (w.begun n c);
      closed = λ n m h e. elim (holds-cases seen node n h) [
        | inl is ↦ inr (Contains-append_right waiting (get_or edges node []) m (subst (λ (k : ℕ). HasEdge edges k m) is e))
        | inr h' ↦ known-next m (w.closed n m h' e)
      ];
    }

    pub looked-falls : left (set seen node true) edges + length (waiting ++ get_or edges node []) ≤ left seen edges + length waiting
    looked-falls = let f = left-falls seen edges node w.count node-marked new in omega (arith, length-append waiting (get_or edges node []))

pub begins : (edges : List (List ℕ)) (from : List ℕ) → ((n : ℕ) → Contains from n → n < length edges) → IsWorkList edges from (replicate (length edges) false) from
begins edges from within = record {
  count = length-replicate (length edges) false;
  within = within;
  seen_is = λ n h. absurd (none-holds (length edges) n h);
  waits = λ n c. (n, c, Here n);
  begun = λ n c. inr c;
  closed = λ n m h e. absurd (none-holds (length edges) n h);
}

module _ (edges : List (List ℕ)) (from : List ℕ) (seen : List Bool) (w : IsWorkList edges from seen []) where
  seen-for-sure : (n : ℕ) → IsKnown seen [] n → Holds seen n
  seen-for-sure n (inl h) = h
  seen-for-sure n (inr c) = absurd (omega (arith, c.1))

  seen-along : (a n : ℕ) → Path edges a n → Holds seen a → Holds seen n
  seen-along a n (Here _) h = h
  seen-along a n (Along _ m _ e p) h = seen-along m n p (seen-for-sure m (w.closed a m h e))

  pub all-seen : (n : ℕ) → IsReachedFrom edges from n → Holds seen n
  all-seen n r = seen-along r.0 n r.2 (seen-for-sure r.0 (w.begun r.0 r.1))
