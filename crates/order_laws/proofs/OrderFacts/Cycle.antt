-- Where waiting is ordered, no threads wait in a cycle: each wait leads on in the class graph, which has no cycle.
use Rattle.order_laws.proofs.Names
use Names.{ℕ, List, [], Some, sym, inl, inr, subst, same_Some, Config, NotHeld, IsEdge, Reaches, edge, then, HasNoCycle}
use Names.{State, Lawful, Ordered, WantsAreOrdered, WaitsAlong, HasCycle, NobodyWalks, best_behind, arith}
use Rattle.std.proofs.Common.{◌≡◌, ◌≢◌, ◌⊎◌, ◌<◌, ◌∷◌, ◌++◌, ◌∙◌}
use Rattle.lock_laws.proofs.Derived as derived

module _ (c : Config) (s : State) (h : Ordered c s) where
  wants_some : (t : ℕ) (us : List ℕ) (v : ℕ) → WaitsAlong s t (us ++ v ∷ []) → (l : ℕ) × (s.wanted t ≡ Some l)
  wants_some t [] v w = (w.0.0, w.0.1)
  wants_some t (u ∷ us) v w = (w.0.0, w.0.1)

  -- where u holds k and wants l, an edge leads from k to l
  held_leads : (u k l : ℕ) → s.held u k ≢ NotHeld → s.wanted u ≡ Some l → IsEdge s.edges (c.class k) (c.class l)
  unfolding WantsAreOrdered
  held_leads u k l n e = grind arith

  -- a thread doesn't want what it holds
  pub unheld : (t l : ℕ) → s.held t l ≢ NotHeld → s.wanted t ≡ Some l → ⊥
  unfolding HasNoCycle
  unheld t l n e = h.no_cycle (c.class l) (edge (held_leads t l l n e))

  -- the last of a line of waiting threads holds the lock that the first wants, or one to whose class a path leads
  along : (t l : ℕ) (us : List ℕ) (v : ℕ) → s.wanted t ≡ Some l → WaitsAlong s t (us ++ v ∷ [])
      → (x : ℕ) × (s.held v x ≢ NotHeld) × ((l ≡ x) ⊎ Reaches s.edges (c.class l) (c.class x))
  along t l [] v e w = (w.0.0, w.0.2, inl (same_Some l w.0.0 (sym e ∙ w.0.1)))
  along t l (u ∷ us) v e w =
      let next = wants_some u us v w.1 in
      let rest = along u next.0 us v next.1 w.1 in
      let its = subst (λ k. s.held u k ≢ NotHeld) (same_Some w.0.0 l (sym w.0.1 ∙ e)) w.0.2 in
      let i : IsEdge s.edges (c.class l) (c.class next.0) = held_leads u l next.0 its next.1 in (
        rest.0,
        rest.1,
        inr (elim rest.2 [
          | inl x ↦ edge (subst (λ k. IsEdge s.edges (c.class l) (c.class k)) x i)
          | inr x ↦ then i x
        ]),
      )

  pub no_cycle : HasCycle s → ⊥
  unfolding HasNoCycle
  no_cycle r =
      let first = wants_some r.0 r.1.0 r.0 r.1.1 in
      let last = along r.0 first.0 r.1.0 r.0 first.1 r.1.1 in
      let i : IsEdge s.edges (c.class last.0) (c.class first.0) = held_leads r.0 last.0 first.0 last.1 first.1 in
      elim last.2 [
        | inl x ↦ h.no_cycle (c.class last.0) (edge (subst (λ k. IsEdge s.edges (c.class last.0) (c.class k)) x i))
        | inr x ↦ h.no_cycle (c.class last.0) (then i x)
      ]

-- so each effective priority is the best behind its thread
pub best : (c : Config) (s : State) (t : ℕ) → Lawful c s → Ordered c s → NobodyWalks c s → t < c.threads
    → s.effective t ≡ best_behind c s t
best c s t l h still lt = derived.effective c s t l still (no_cycle c s h) lt
