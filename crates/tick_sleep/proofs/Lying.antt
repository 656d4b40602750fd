-- A thread lies down on a key: what becomes of the table.
use Rattle.std.proofs.Common.{◌≡◌, ◌≢◌, ℕ, ◌+◌, ◌<◌, Bool, true, false, cond, eqb, nat_lt, List, [], ◌∷◌, ◌++◌, length, set, option_map, Option, None, Some, refl, sym, ap, subst, arith, ◌∙◌, inl, inr, eq-eqb}
use Rattle.std.specs.Prelude.{is_some}
use Rattle.std.proofs.lemmas.Bool.{cases_eq, ne_eqb}
use Rattle.std.proofs.lemmas.Bool.Decides.{nat_tests}
use Rattle.lock_model.specs.Counts.{one, some, times}
use Rattle.lock_model.specs.Queues.{Waiter, times_waiting, chan_queue}
use Rattle.lock_model.specs.declared.plan.QueueName.{QueueName}
use Rattle.lock_model.proofs.Lists.{times_waiting-last}
use Rattle.sleep_queues.specs.Seen.{SleepQueue, idle}
use Rattle.wait_objects.specs.Seen.{Kept}
use Rattle.chain_table.specs.Chains.{head_of, without}
use Rattle.tick_sleep.specs.Tables.{Table, lying_at, lying, home_at, is_home, times_lying, lent, times_lent, times_home, CanJoin, head_joined, IsSound}
use Rattle.tick_sleep.proofs.Places.{lent_at, at_home, lying-without, lent-without, heads-without, head_found, other_queue, head-others, home_set, home_other, home_within, length_set, times_home-set, own_set}

joined_lying : (q : QueueName) (x : ℕ) (w : Waiter) (o : Option SleepQueue)
    → (head_joined q x w o).contents.exclusive ≡ lying_at o ++ w ∷ []
joined_lying q x w None = refl
joined_lying q x w (Some h) = refl

joined_lent : (y : ℕ) (q : QueueName) (x : ℕ) (w : Waiter) (o : Option SleepQueue)
    → times y (lent (head_joined q x w o).contents) ≡ times y (lent_at o) + one (eqb y x)
joined_lent y q x w None = omega arith
joined_lent y q x w (Some h) = omega arith

joined_shared : (q : QueueName) (x : ℕ) (w : Waiter) (o : Option SleepQueue)
    → ((h : SleepQueue) → o ≡ Some h → h.contents.shared ≡ []) → (head_joined q x w o).contents.shared ≡ []
joined_shared q x w None e = refl
joined_shared q x w (Some h) e = e h refl

some_last : (ws : List Waiter) (w : Waiter) → ws ++ w ∷ [] ≢ []
some_last [] w e = cc
some_last (v ∷ ws) w e = cc

no_more : (ws : List Waiter) (vs : List Waiter) → ws ≢ [] → ws ++ vs ≢ []
no_more [] vs ne = absurd (ne refl)
no_more (w ∷ ws) vs ne = λ e. cc

module _ (a : Table) (sound : IsSound a) (t key : ℕ) (k : Kept) (home : home_at t a.homes ≡ Some k) where
  -- the thread lies nowhere
  lies_nowhere : times_lying t a.chain ≡ 0
  lies_nowhere = let n = sound.one_place_each_node t in let s : some (home_at t a.homes) ≡ 1 = ap some home in
      go (nat_lt t (length a.homes)) n s
    where
      go : (b : Bool) → some (home_at t a.homes) + times_lying t a.chain ≡ one b → some (home_at t a.homes) ≡ 1
          → times_lying t a.chain ≡ 0
      go true n s = omega arith
      go false n s = omega arith

  pub may_join : CanJoin t (head_of (chan_queue key) a.chain)
  may_join = go (head_of (chan_queue key) a.chain) refl (lying-without t (chan_queue key) a.chain)
    where
      go : (o : Option SleepQueue) → head_of (chan_queue key) a.chain ≡ o
          → times_lying t (without (chan_queue key) a.chain) + times_waiting t (lying_at o) ≡ times_lying t a.chain
          → CanJoin t o
      go None e n = tt
      go (Some h) e n =
          let found = head_found (chan_queue key) a.chain h sound.heads e in
          let none = lies_nowhere in
          let shared : times_waiting t h.contents.shared ≡ 0 = ap (times_waiting t) found.1 in
          (no_more h.contents.exclusive h.contents.shared found.0, grind (arith, nat_tests, n, none, shared))

  module _ (w : Waiter) (mine : w.thread ≡ t) where
    within : t < length a.homes
    within = home_within a.homes t k home

    pub lied_sound : IsSound (record {
      chain = (chan_queue key, head_joined (chan_queue key) k.object w (head_of (chan_queue key) a.chain)) ∷ without
          (chan_queue key) a.chain;
      homes = set a.homes t None;
    })
    lied_sound = record {
      one_place_each_node = nodes;
      one_place_each = objects;
      own_nodes = own_set a.homes t None within (λ j e. absurd cc) sound.own_nodes;
      heads = (
        subst (λ (ws : List Waiter). ws ≢ [])
            (sym (joined_lying (chan_queue key) k.object w (head_of (chan_queue key) a.chain)))
            (some_last (lying_at (head_of (chan_queue key) a.chain)) w),
        joined_shared (chan_queue key) k.object w (head_of (chan_queue key) a.chain)
            (λ h e. (head_found (chan_queue key) a.chain h sound.heads e).1),
        heads-without (chan_queue key) a.chain sound.heads,
      );
    }
      where
        nodes : (u : ℕ) → some (home_at u (set a.homes t None)) +
            (times_waiting u (head_joined (chan_queue key) k.object w
            (head_of (chan_queue key) a.chain)).contents.exclusive + times_lying u (without (chan_queue key) a.chain)) ≡
            one (nat_lt u (length (set a.homes t None)))
        nodes u =
            let n = sound.one_place_each_node u in
            let l = lying-without u (chan_queue key) a.chain in
            let j = ap (times_waiting u) (joined_lying (chan_queue key) k.object w (head_of (chan_queue key) a.chain))
            ∙ times_waiting-last u w (lying_at (head_of (chan_queue key) a.chain)) in
            let size = length_set a.homes t None in
            elim (cases_eq u t) [
              | inl e ↦
                  let now : some (home_at u (set a.homes t None)) ≡ 0 =
                  ap (λ v. some (home_at v (set a.homes t None))) e ∙ ap some (home_set a.homes t None within) in
                  let was : some (home_at u a.homes) ≡ 1 = ap (λ v. some (home_at v a.homes)) e ∙ ap some home in
                  let c : one (eqb u w.thread) ≡ 1 = ap one (eq-eqb u w.thread (e ∙ sym mine)) in
                  rw size (omega (arith, n, l, j, now, was, c))
              | inr ne ↦
                  let same : some (home_at u (set a.homes t None)) ≡ some (home_at u a.homes) =
                  ap some (home_other a.homes t u None (λ i. ne (sym i))) in
                  let c : one (eqb u w.thread) ≡ 0 = ap one (ne_eqb u w.thread (λ i. ne (i ∙ mine))) in
                  rw size (omega (arith, n, l, j, same, c))
            ]

        objects : (x : ℕ) → times_home x (set a.homes t None) +
            (times x (lent (head_joined (chan_queue key) k.object w (head_of (chan_queue key) a.chain)).contents) +
            times_lent x (without (chan_queue key) a.chain)) ≡ one (nat_lt x (length (set a.homes t None)))
        objects x =
            let n = sound.one_place_each x in
            let l = lent-without x (chan_queue key) a.chain in
            let j = joined_lent x (chan_queue key) k.object w (head_of (chan_queue key) a.chain) in
            let h = times_home-set x a.homes t None within in
            let was : at_home x (home_at t a.homes) ≡ one (eqb x k.object) = ap (at_home x) home in
            rw (length_set a.homes t None) (omega (arith, n, l, j, h, was))

    pub lied_queues : (j : ℕ) → lying j (record {
      chain = (chan_queue key, head_joined (chan_queue key) k.object w (head_of (chan_queue key) a.chain)) ∷ without
          (chan_queue key) a.chain;
      homes = set a.homes t None;
    }) ≡ cond (eqb key j) (lying j a ++ w ∷ []) (lying j a)
    lied_queues j = elim (cases_eq key j) [
      | inl e ↦ subst (λ i. lying_at
          (cond (eqb i key) (Some (head_joined (chan_queue key) k.object w (head_of (chan_queue key) a.chain)))
          (head_of (chan_queue i) (without (chan_queue key) a.chain)))
          ≡ cond (eqb key i) (lying i a ++ w ∷ []) (lying i a)) e
          (rw (eq-eqb key key refl) (joined_lying (chan_queue key) k.object w (head_of (chan_queue key) a.chain)))
      | inr ne ↦ rw (ne_eqb key j ne, ne_eqb j key (λ i. ne (sym i)))
          (ap lying_at (head-others (chan_queue j) (chan_queue key) a.chain (other_queue j key (λ i. ne (sym i)))))
    ]

    pub lied_homes : (u : ℕ) → is_some (home_at u (set a.homes t None)) ≡ cond (eqb t u) false (is_home u a)
    lied_homes u = elim (cases_eq t u) [
      | inl e ↦ rw (eq-eqb t u e)
          (subst (λ v. is_some (home_at v (set a.homes t None)) ≡ false) e
          (ap (λ (o : Option Kept). is_some o) (home_set a.homes t None within)))
      | inr ne ↦ rw (ne_eqb t u ne) (ap (λ (o : Option Kept). is_some o) (home_other a.homes t u None ne))
    ]

-- what is at home, where something is
pub kept_there : (o : Option Kept) → is_some o ≡ true → (k : Kept) × (o ≡ Some k)
kept_there None e = absurd cc
kept_there (Some k) e = (k, refl)

pub home_here : (homes : List (Option Kept)) (t : ℕ) → is_some (home_at t homes) ≡ true → t < length homes
home_here homes t e = let k = kept_there (home_at t homes) e in home_within homes t k.0 k.1

-- in the words of the calls: a home that was lent, with its object and its node
module _ (a : Table) (sound : IsSound a) (t key : ℕ) (o : Option Kept) (at : o ≡ home_at t a.homes)
    (home : is_home t a ≡ true) (own : SleepQueue) (n : ℕ)
    (object : option_map (λ (k : Kept). idle k.object) o ≡ Some own)
    (node : option_map (λ (k : Kept). k.thread) o ≡ Some n) where
  there : (k : Kept) × (home_at t a.homes ≡ Some k)
  there = kept_there (home_at t a.homes) home

  pub its_node : n ≡ t
  its_node =
      let k = there in
      sym (ap (number_or n) (sym (ap (option_map (λ (j : Kept). j.thread)) (at ∙ k.1)) ∙ node))
      ∙ sound.own_nodes t k.0 k.1
    where
      number_or : ℕ → Option ℕ → ℕ
      number_or d None = d
      number_or d (Some m) = m

  its_object : own.contents.number ≡ there.0.object
  its_object = sym (ap (number_of there.0.object)
      (sym (ap (option_map (λ (j : Kept). idle j.object)) (at ∙ there.1)) ∙ object))
    where
      number_of : ℕ → Option SleepQueue → ℕ
      number_of d None = d
      number_of d (Some h) = h.contents.number

  pub may : CanJoin n (head_of (chan_queue key) a.chain)
  may = subst (λ m. CanJoin m (head_of (chan_queue key) a.chain)) (sym its_node)
      (may_join a sound t key there.0 there.1)

  module _ (prio : ℕ) (chain : List (QueueName × SleepQueue)) (homes : List (Option Kept))
      (placed : chain ≡ (
        chan_queue key,
        head_joined (chan_queue key) own.contents.number
            (record { thread = n; kept = prio }) (head_of (chan_queue key) a.chain),
      ) ∷ without (chan_queue key) a.chain)
      (left : homes ≡ set a.homes t None) where
    table_is : ◌≡◌ {A = Table} (record { chain = chain; homes = homes })
        (record {
          chain = (
            chan_queue key,
            head_joined (chan_queue key) there.0.object
                (record { thread = n; kept = prio }) (head_of (chan_queue key) a.chain),
          ) ∷ without (chan_queue key) a.chain;
          homes = set a.homes t None;
        })
    table_is = λ i. record {
      chain = (placed ∙ ap (λ (x : ℕ). (
        chan_queue key,
        head_joined (chan_queue key) x (record { thread = n; kept = prio })
            (head_of (chan_queue key) a.chain),
      ) ∷ without (chan_queue key) a.chain) its_object) i;
      homes = left i;
    }

    pub then_sound : IsSound (record { chain = chain; homes = homes })
    then_sound = subst IsSound (sym table_is)
        (lied_sound a sound t key there.0 there.1 (record { thread = n; kept = prio }) its_node)

    pub then_queues : (j : ℕ)
        → lying j (record { chain = chain; homes = homes }) ≡ cond (eqb key j)
        (lying j a ++ (record { thread = t; kept = prio }) ∷ []) (lying j a)
    then_queues j =
        ap (lying j) table_is
        ∙ lied_queues a sound t key there.0 there.1 (record { thread = n; kept = prio }) its_node j
        ∙ ap (λ (m : ℕ). cond (eqb key j) (lying j a ++ (record { thread = m; kept = prio }) ∷ []) (lying j a)) its_node

    pub then_homes : (u : ℕ) → is_home u (record { chain = chain; homes = homes }) ≡ cond (eqb t u) false (is_home u a)
    then_homes u = ap (is_home u) table_is
        ∙ lied_homes a sound t key there.0 there.1 (record { thread = n; kept = prio }) its_node u
