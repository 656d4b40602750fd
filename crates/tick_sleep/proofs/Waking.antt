-- Some of those that lie on a key get up: what becomes of the table.
use Rattle.std.proofs.Common.{◌≡◌, ◌≢◌, ℕ, ◌+◌, true, false, cond, eqb, List, [], ◌∷◌, ◌++◌, length, Option, None, Some, IfSome, refl, sym, ap, subst, arith, ◌∙◌, inl, inr, eq-eqb}
use Rattle.std.proofs.lemmas.Bool.{cases_Bool, cases_eq, ne_eqb}
use Rattle.std.proofs.lemmas.Bool.Decides.{nat_tests}
use Rattle.lock_model.specs.Counts.{times, is_empty}
use Rattle.lock_model.specs.Queues.{Waiter, times_waiting, free_after, chan_queue}
use Rattle.lock_model.specs.declared.plan.QueueName.{QueueName}
use Rattle.lock_model.proofs.Lists.{times-taken, length-taken, times-entry, length-entry}
use Rattle.sleep_queues.specs.Seen.{SleepQueue, Contents, Place}
use Rattle.sleep_queues.specs.Lists.{with_last, LastHasNone}
use Rattle.sleep_queues.specs.Changes.{all_waiters, AreTaken}
use Rattle.wait_objects.specs.Seen.{Kept}
use Rattle.wait_objects.proofs.Taken.{some_places}
use Rattle.chain_table.specs.Chains.{head_of, without}
use Rattle.tick_sleep.specs.declared.who.Who.{Who}
use Rattle.tick_sleep.specs.declared.who.Who.TheVariants.{Best, All, Thread}
use Rattle.tick_sleep.specs.Tables.{Table, lying_at, lying, home_at, times_lying, lent, times_lent, AreHeads, off, staying, left_by, homes_with, CanGoHome, IsSound, Wakes}
use Rattle.tick_sleep.proofs.Places.{lent_at, lying-without, lent-without, heads-without, head_found, other_queue, same_queue, head-others, some_is, times_going, times_object, AllHold, going_are, objects_are, going_last, objects_last, hold_last, hold_others, FitsHome, can_go, size_with, nodes_with, objects_with, own_with}

-- 1. Who goes and who stays

times_off : (u : ℕ) (who : Who) (ws : List Waiter)
    → times_waiting u (off who ws) + times_waiting u (staying who ws) ≡ times_waiting u ws
times_off u Best ws = times-taken u false ws
times_off u All ws = times-taken u true ws
times_off u (Thread t) ws = times-entry u t.0 ws

length_off : (who : Who) (ws : List Waiter) → length (off who ws) + length (staying who ws) ≡ length ws
length_off Best ws = length-taken false ws
length_off All ws = length-taken true ws
length_off (Thread t) ws = length-entry t.0 ws

pub nobody_off : (who : Who) → off who [] ≡ []
nobody_off Best = refl
nobody_off All = refl
nobody_off (Thread t) = refl

empty_is : {A : Type 0} (xs : List A) → is_empty xs ≡ true → xs ≡ []
empty_is [] e = refl
empty_is (x ∷ xs) e = absurd cc

full_is : {A : Type 0} (xs : List A) → is_empty xs ≡ false → xs ≢ []
full_is [] e = absurd cc
full_is (x ∷ xs) e = λ i. cc

some_off : (who : Who) (ws : List Waiter) → ws ≢ [] → staying who ws ≡ [] → off who ws ≢ []
some_off who ws ne none = λ e.
    let l = length_off who ws in
    let a = ap length none in
    let b = ap length e in
    ne (nobody ws (omega (arith, l, a, b)))
  where
    nobody : (vs : List Waiter) → length vs ≡ 0 → vs ≡ []
    nobody [] e = refl
    nobody (v ∷ vs) e = absurd (omega arith)

-- 2. The table

module _ (a : Table) (sound : IsSound a) (key : ℕ) (who : Who) (h : SleepQueue)
    (found : head_of (chan_queue key) a.chain ≡ Some h)
    (absent : head_of (chan_queue key) (without (chan_queue key) a.chain) ≡ None) where
  abbrev pub ws : List Waiter
  ws = off who h.contents.exclusive

  abbrev pub left : Contents
  left = left_by who h.contents

  only : all_waiters left ≡ staying who h.contents.exclusive
  only = ap (λ (vs : List Waiter). staying who h.contents.exclusive ++ vs)
      (head_found (chan_queue key) a.chain h sound.heads found).1 ∙ nothing (staying who h.contents.exclusive)
    where
      nothing : (vs : List Waiter) → vs ++ [] ≡ vs
      nothing [] = refl
      nothing (v ∷ vs) = ap (λ (us : List Waiter). v ∷ us) (nothing vs)

  module _ (ps : List Place) (are : AreTaken ws h.contents left ps) where
    abbrev pub goers : List Place
    goers = cond (is_empty (all_waiters left)) (with_last h.contents.number ps) ps

    some_go : all_waiters left ≡ [] → ps ≢ []
    some_go nobody = subst (λ (qs : List Place). qs ≢ []) (sym are.taken)
        (some_places ws h.contents.free
        (some_off who h.contents.exclusive (head_found (chan_queue key) a.chain h sound.heads found).0
        (sym only ∙ nobody)))

    pub last_none : all_waiters left ≡ [] → LastHasNone ps
    last_none nobody = are.last.1 (some_go nobody, nobody)

    going : (u : ℕ) → times_going u goers ≡ times_waiting u ws
    going u = elim (is_empty (all_waiters left)) as
        (λ b. times_going u (cond b (with_last h.contents.number ps) ps) ≡ times_waiting u ws) [
          | true ↦ going_last u h.contents.number ps ∙ ap (times_going u) are.taken ∙ going_are u ws h.contents.free
          | false ↦ ap (times_going u) are.taken ∙ going_are u ws h.contents.free
        ]

    pub hold : AllHold goers
    hold = elim (cases_Bool (is_empty (all_waiters left))) [
      | inl e ↦ subst (λ b. AllHold (cond b (with_last h.contents.number ps) ps)) (sym e)
          (hold_last h.contents.number ps are.others)
      | inr e ↦ subst (λ b. AllHold (cond b (with_last h.contents.number ps) ps)) (sym e)
          (hold_others ps are.others (λ l. full_is (all_waiters left) e (are.last.0 l).1))
    ]

    lies : (u : ℕ) → times_lying u (without (chan_queue key) a.chain) + times_waiting u h.contents.exclusive ≡
        times_lying u a.chain
    lies u = ap (λ (o : Option SleepQueue). times_lying u (without (chan_queue key) a.chain) + times_waiting u
        (lying_at o)) (sym found) ∙ lying-without u (chan_queue key) a.chain

    lends : (x : ℕ) → times_lent x (without (chan_queue key) a.chain) + times x (lent h.contents) ≡ times_lent x a.chain
    lends x = ap (λ (o : Option SleepQueue). times_lent x (without (chan_queue key) a.chain) + times x (lent_at o))
        (sym found) ∙ lent-without x (chan_queue key) a.chain

    pub fits : FitsHome goers a.homes
    fits u = let n = sound.one_place_each_node u in let l = lies u in let g = going u in let o =
        times_off u who h.contents.exclusive in omega (arith, n, l, g, o)

    pub can : CanGoHome goers a.homes
    can = can_go goers a.homes hold fits

    module _ (free : all_waiters left ≡ [] → left.free ≡ []) where
      -- the objects of those who go, and those that stay
      objects : (x : ℕ) → times_object x goers + cond (is_empty (all_waiters left)) 0 (times x (lent left)) ≡ times x
          (lent h.contents)
      objects x = elim (cases_Bool (is_empty (all_waiters left))) [
        | inl e ↦
            let nobody = empty_is (all_waiters left) e in
            let o = objects_last x h.contents.number ps (last_none nobody) in
            let m = ap (times_object x) are.taken in
            let n = objects_are x ws h.contents.free in
            let z : times x (free_after ws h.contents.free) ≡ 0 = ap (times x) (free nobody) in
            rw e (omega (arith, o, m, n, z))
        | inr e ↦
            let m = ap (times_object x) are.taken in
            let n = objects_are x ws h.contents.free in
            rw e (omega (arith, m, n))
      ]

      module _ (head : SleepQueue) (same : head.contents ≡ left) where
        abbrev pub chain : List (QueueName × SleepQueue)
        chain = cond (is_empty (all_waiters left)) (without (chan_queue key) a.chain)
            ((chan_queue key, head) ∷ without (chan_queue key) a.chain)

        lie : (u : ℕ) → times_lying u chain ≡ times_waiting u (staying who h.contents.exclusive) + times_lying u
            (without (chan_queue key) a.chain)
        lie u = elim (cases_Bool (is_empty (all_waiters left))) [
          | inl e ↦ let z : times_waiting u (staying who h.contents.exclusive) ≡ 0 =
              ap (times_waiting u) (sym only ∙ empty_is (all_waiters left) e) in rw e (omega (arith, z))
          | inr e ↦ rw e (ap (λ (c : Contents). times_waiting u c.exclusive + times_lying u
              (without (chan_queue key) a.chain)) same)
        ]

        lend : (x : ℕ) → times_lent x chain ≡ cond (is_empty (all_waiters left)) 0 (times x (lent left)) + times_lent x
            (without (chan_queue key) a.chain)
        lend x = elim (cases_Bool (is_empty (all_waiters left))) [
          | inl e ↦ rw e (omega arith)
          | inr e ↦ rw e (ap (λ (c : Contents). times x (lent c) + times_lent x (without (chan_queue key) a.chain))
              same)
        ]

        heads : AreHeads chain
        heads = elim (cases_Bool (is_empty (all_waiters left))) [
          | inl e ↦ rw e (heads-without (chan_queue key) a.chain sound.heads)
          | inr e ↦ rw e (
            subst (λ (c : Contents). c.exclusive ≢ []) (sym same)
                (subst (λ (vs : List Waiter). vs ≢ []) only (full_is (all_waiters left) e)),
            ap (λ (c : Contents). c.shared) same ∙ (head_found (chan_queue key) a.chain h sound.heads found).1,
            heads-without (chan_queue key) a.chain sound.heads,
          )
        ]

        pub woken_sound : IsSound (record { chain = chain; homes = homes_with goers a.homes })
        woken_sound = record {
          one_place_each_node = λ u.
              let n = sound.one_place_each_node u in
              let l = lies u in
              let g = going u in
              let o = times_off u who h.contents.exclusive in
              let w = nodes_with goers a.homes hold fits u in
              let c = lie u in
              rw (size_with goers a.homes) (omega (arith, n, l, g, o, w, c));
          one_place_each = λ x.
              let n = sound.one_place_each x in
              let l = lends x in
              let o = objects x in
              let w = objects_with goers a.homes hold fits x in
              let c = lend x in
              rw (size_with goers a.homes) (omega (arith, n, l, o, w, c));
          own_nodes = own_with goers a.homes hold fits sound.own_nodes;
          heads = heads;
        }

        pub woken : Wakes a (record { chain = chain; homes = homes_with goers a.homes }) key who
        woken = record {
          queues = λ k. elim (cases_eq key k) [
            | inl e ↦ subst (λ j. lying_at (head_of (chan_queue j) chain) ≡ cond (eqb key j) (staying who (lying j a))
                (lying j a)) e (rw (eq-eqb key key refl)
                (here ∙ ap (λ (o : Option SleepQueue). staying who (lying_at o)) (sym found)))
            | inr ne ↦ rw (ne_eqb key k ne) (ap lying_at (other k (λ i. ne (sym i))))
          ];
          homes = λ u.
              let w = nodes_with goers a.homes hold fits u in
              let g = going u in
              let p = some_is (home_at u (homes_with goers a.homes)) in
              let q = some_is (home_at u a.homes) in
              let f = ap (λ (o : Option SleepQueue). times_waiting u (off who (lying_at o))) (sym found) in
              grind (arith, nat_tests, w, g, p, q, f);
          size = size_with goers a.homes;
        }
          where
            here : lying_at (head_of (chan_queue key) chain) ≡ staying who h.contents.exclusive
            here = elim (cases_Bool (is_empty (all_waiters left))) [
              | inl e ↦ rw (e, absent) (sym (sym only ∙ empty_is (all_waiters left) e))
              | inr e ↦ rw (e, same_queue key) (ap (λ (c : Contents). c.exclusive) same)
            ]

            other : (k : ℕ) → k ≢ key → head_of (chan_queue k) chain ≡ head_of (chan_queue k) a.chain
            other k ne = elim (cases_Bool (is_empty (all_waiters left))) [
              | inl e ↦ rw e (head-others (chan_queue k) (chan_queue key) a.chain (other_queue k key ne))
              | inr e ↦ rw (e, other_queue k key ne)
                  (head-others (chan_queue k) (chan_queue key) a.chain (other_queue k key ne))
            ]

-- 3. In the words of the calls

pub told : (d h n : SleepQueue) (who : Who) (ps : List Place) → d ≡ h → n.contents ≡ left_by who d.contents
    → AreTaken (off who d.contents.exclusive) d.contents n.contents ps
    → AreTaken (off who h.contents.exclusive) h.contents (left_by who h.contents) ps
told d h n who ps v e are =
    subst (λ (s : SleepQueue). AreTaken (off who s.contents.exclusive) s.contents (left_by who s.contents) ps) v
    (subst (λ (l : Contents). AreTaken (off who d.contents.exclusive) d.contents l ps) e are)

pub of_name : (o : Option QueueName) (q : QueueName) (P : QueueName → Type 0) → o ≡ Some q → IfSome o P → P q
of_name None q P e h = absurd cc
of_name (Some r) q P e h = let same : r ≡ q = ap (name_or q) e in subst P same h
  where
    name_or : QueueName → Option QueueName → QueueName
    name_or d None = d
    name_or d (Some r) = r

module _ (a : Table) (sound : IsSound a) (key : ℕ) (who : Who) (h : SleepQueue)
    (found : head_of (chan_queue key) a.chain ≡ Some h)
    (absent : head_of (chan_queue key) (without (chan_queue key) a.chain) ≡ None)
    (ps : List Place) (are : AreTaken (off who h.contents.exclusive) h.contents (left_by who h.contents) ps)
    (n : SleepQueue) (same : n.contents ≡ left_by who h.contents)
    (qs : List Place) (q_is : qs ≡ cond (is_empty (all_waiters n.contents)) (with_last n.contents.number ps) ps) where
  goers_are : qs ≡ goers a sound key who h found absent ps are
  goers_are = q_is ∙ ap (λ (c : Contents). cond (is_empty (all_waiters c)) (with_last c.number ps) ps) same

  pub then_can : CanGoHome qs a.homes
  then_can = subst (λ rs. CanGoHome rs a.homes) (sym goers_are) (can a sound key who h found absent ps are)

  module _ (free : all_waiters n.contents ≡ [] → n.contents.free ≡ []) (rest others : List (QueueName × SleepQueue))
      (rest_is : rest ≡ without (chan_queue key) a.chain)
      (c_is : others ≡ cond (is_empty (all_waiters n.contents)) rest ((chan_queue key, n) ∷ rest))
      (homes : List (Option Kept)) (h_is : homes ≡ homes_with qs a.homes) where
    freed : all_waiters (left_by who h.contents) ≡ [] → (left_by who h.contents).free ≡ []
    freed e = subst (λ (c : Contents). all_waiters c ≡ [] → c.free ≡ []) same free e

    chain_are : others ≡ chain a sound key who h found absent ps are freed n same
    chain_are = c_is ∙ (λ i. cond (is_empty (all_waiters (same i))) (rest_is i) ((chan_queue key, n) ∷ rest_is i))

    homes_are : homes ≡ homes_with (goers a sound key who h found absent ps are) a.homes
    homes_are = h_is ∙ ap (λ (rs : List Place). homes_with rs a.homes) goers_are

    table_is : ◌≡◌ {A = Table}
        (record {
          chain = chain a sound key who h found absent ps are freed n same;
          homes = homes_with (goers a sound key who h found absent ps are) a.homes;
        })
        (record { chain = others; homes = homes })
    table_is = λ i. record { chain = sym chain_are i; homes = sym homes_are i }

    pub then_sound : IsSound (record { chain = others; homes = homes })
    then_sound = subst IsSound table_is (woken_sound a sound key who h found absent ps are freed n same)

    pub then_woken : Wakes a (record { chain = others; homes = homes }) key who
    then_woken = subst (λ (b : Table). Wakes a b key who) table_is
        (woken a sound key who h found absent ps are freed n same)
