-- What a thread's seat knows of its share behind a step, and that the other threads' shares stay.
use Rattle.lock_floor.proofs.Names
use Names.{ℕ, suc, Bool, true, false, not, cond, Some, None, List, [], refl, sym, ap, subst, inl, inr, eq-eqb, cases_eq}
use Names.{ne_eqb, eqb-true, gained_order-push, gained_order-without, put_same, put_other, put_at_same, put_at_row}
use Names.{put_at_beside, gained_order, State, put, put_at, Config, OfSection, NoSection, BeginsIn, EndsFrom, LeftFor}
use Names.{TakenBack, facets, NotHeld, Holds, hold_in, without_lock, Event, Held, apart_once, once_push, once_without}
use Names.{column_push, column_without, round_of, taking_from, after_seek, after_look, after_gain, after_drop}
use Names.{after_stamp, without_held, entry_of, begun_after, begun_with, looks_after, round_after, taking_after}
use Names.{unstamped_after, Item, after_take, after_give, is_chain, in_its_chain, seen_after, Slot, ShareColumns}
use Names.{columns_of, share_in, is_among, Knowledge, RepresentsShare, counts, looked, sought, others, gained, put_down}
use Names.{begun_behind, begun_by, stamped, took, gave}
use Rattle.std.proofs.Common.{◌≡◌, ◌≢◌, ◌||◌, ◌∷◌, ◌++◌, ◌∙◌}
use Rattle.std.specs.Prelude.{◌==◌}

-- 1. Locks of which a section began

among_gone : (l : ℕ) (ks : List ℕ) → is_among l (others l ks) ≡ false
among_gone l [] = refl
among_gone l (x ∷ ks) =
    elim (x == l) as (λ b. (x == l) ≡ b → is_among l (cond (not b) (x ∷ others l ks) (others l ks)) ≡ false) [
      | true ↦ λ e. among_gone l ks
      | false ↦ λ e. ap (λ b. b || is_among l (others l ks)) e ∙ among_gone l ks
    ] refl

pub among_stays : (l k : ℕ) (ks : List ℕ) → l ≢ k → is_among k (others l ks) ≡ is_among k ks
among_stays l k [] ne = refl
among_stays l k (x ∷ ks) ne =
    elim (x == l) as (λ b. (x == l) ≡ b
    → is_among k (cond (not b) (x ∷ others l ks) (others l ks)) ≡ ((x == k) || is_among k ks)) [
      | true ↦ λ e. among_stays l k ks ne
          ∙ sym (ap (λ b. b || is_among k ks) (ne_eqb x k (λ q. ne (sym (eqb-true x l e) ∙ q))))
      | false ↦ λ e. ap (λ b. (x == k) || b) (among_stays l k ks ne)
    ] refl

module _ (f : ℕ → ℕ → Bool) (t : ℕ) (ks : List ℕ) (is : (k : ℕ) → is_among k ks ≡ f t k) where
  -- a lock that is gained has none yet
  begun_gained : (l k : ℕ) → is_among k (others l ks) ≡ put_at f t l false t k
  begun_gained l k =
      elim (cases_eq l k) [
        | inl e ↦ subst (λ j. is_among j (others l ks) ≡ put_at f t l false t j) e
            (among_gone l ks ∙ sym (put_at_same f t l false))
        | inr ne ↦ among_stays l k ks ne ∙ is k ∙ sym (put_at_beside f t l false t k ne)
      ]

  begun_more : (l k : ℕ) → is_among k (l ∷ ks) ≡ put_at f t l true t k
  begun_more l k =
      elim (cases_eq l k) [
        | inl e ↦ subst (λ j. is_among j (l ∷ ks) ≡ put_at f t l true t j) e
            (ap (λ b. b || is_among l ks) (eq-eqb l l refl) ∙ sym (put_at_same f t l true))
        | inr ne ↦ ap (λ b. b || is_among k ks) (ne_eqb l k ne) ∙ is k ∙ sym (put_at_beside f t l true t k ne)
      ]

  begun_by_section : (c : Config) (x : OfSection) (k : ℕ) → is_among k (begun_behind c x ks) ≡ begun_with c x t f t k
  begun_by_section c NoSection k = is k
  begun_by_section c (BeginsIn l mode) k = begun_more l k
  begun_by_section c (EndsFrom l mode) k = is k
  begun_by_section c (LeftFor d) k = is k
  begun_by_section c (TakenBack d) k = begun_more (c.chan_lock d) k

  begun_stamped : (c : Config) (e : Event) (k : ℕ) → is_among k (begun_by c e ks) ≡ begun_after c e t f t k
  begun_stamped c e k = begun_by_section c (facets e).section k

-- those of another thread stay
begun_others : (c : Config) (f : ℕ → ℕ → Bool) (t u : ℕ) (x : OfSection) → (t ≡ u → ⊥) → begun_with c x t f u ≡ f u
begun_others c f t u NoSection ne = refl
begun_others c f t u (BeginsIn l mode) ne = put_at_row f t l true u ne
begun_others c f t u (EndsFrom l mode) ne = refl
begun_others c f t u (LeftFor d) ne = refl
begun_others c f t u (TakenBack d) ne = put_at_row f t (c.chan_lock d) true u ne

-- 2. The own share

module _ (s : State) (v : Knowledge) (fit : RepresentsShare v.share s v.thread) where
  abbrev t : ℕ
  t = v.thread

  abbrev e : columns_of v.share ≡ share_in s t
  e = fit.columns

  pub look_own : (l : ℕ) → RepresentsShare (looked v l (s.word l)).share (after_look s t l (counts v l)) t
  unfolding after_look
  look_own l = record {
    columns = λ i. record (e i) {
      doing = record (e i).doing {
        looks = (ap (λ (x : ShareColumns). cond (counts v l) (suc x.doing.looks) x.doing.looks) e
            ∙ sym (put_same s.looks t (cond (counts v l) (suc (s.looks t)) (s.looks t)))) i;
        looks_in_all = (ap (λ (x : ShareColumns). suc x.doing.looks_in_all) e
            ∙ sym (put_same s.looks_in_all t (suc (s.looks_in_all t)))) i;
        last_look = sym (put_same s.last_look t (Some (record { lock = l; word = s.word l }))) i;
        seen_in_section = sym (put_same s.seen_in_section t (Some (record { lock = l; word = s.word l }))) i;
      };
    };
    held_once = fit.held_once;
  }

  pub seek_own : (l : ℕ) (by_try : Bool) → RepresentsShare (sought v l by_try).share (after_seek s t l by_try) t
  unfolding after_seek
  seek_own l by_try = record {
    columns = λ i. record (e i) {
      doing = record (e i).doing {
        taking = (ap (λ (x : ShareColumns). taking_from by_try x.doing.wanted l x.doing.taking) e
            ∙ sym (put_same s.taking t (taking_from by_try (s.wanted t) l (s.taking t)))) i;
        looks = sym (put_same s.looks t 0) i;
        round = sym (put_same s.round t (Some (round_of l by_try))) i;
      };
    };
    held_once = fit.held_once;
  }

  pub gain_own : (h : Held) → s.held t h.l.0 ≡ NotHeld
      → RepresentsShare (gained v h).share (after_gain s t h.l.0 h.mode h.by_try) t
  unfolding after_gain
  gain_own h new =
      let held : (l : ℕ) → hold_in v.share.held l ≡ s.held t l = λ l. ap (λ (x : ShareColumns). x.held l) e in
      let begun : (l : ℕ) → is_among l v.share.begun ≡ s.has_begun t l =
      λ l. ap (λ (x : ShareColumns). x.has_begun l) e in
      let listed : gained_order (v.share.held ++ h ∷ []) ≡ put s.held_locks t
      (record { lock = h.l.0; by_try = h.by_try } ∷ s.held_locks t) t =
      gained_order-push v.share.held h
      ∙ ap (λ (x : ShareColumns). record { lock = h.l.0; by_try = h.by_try } ∷ x.held_locks) e
      ∙ sym (put_same s.held_locks t _) in
      record {
        columns = λ i. record (e i) {
          held = λ l. column_push s.held t v.share.held h new held l i;
          held_locks = listed i;
          has_begun = λ l. begun_gained s.has_begun t v.share.begun begun h.l.0 l i;
          doing = record (e i).doing {
            wanted = sym (put_same s.wanted t None) i;
            called = sym (put_same s.called t None) i;
            looks = sym (put_same s.looks t 0) i;
            last_look = sym (put_same s.last_look t None) i;
            round = sym (put_same s.round t None) i;
          };
        };
        held_once = once_push v.share.held h (held h.l.0 ∙ new) fit.held_once;
      }

  pub drop_own : (l : ℕ) → RepresentsShare (put_down v l).share (after_drop s t l) t
  unfolding after_drop
  drop_own l =
      let held : (k : ℕ) → hold_in v.share.held k ≡ s.held t k = λ k. ap (λ (x : ShareColumns). x.held k) e in
      let listed : gained_order (without_lock l v.share.held) ≡ put s.held_locks t (without_held l (s.held_locks t)) t =
      sym (gained_order-without l v.share.held (apart_once v.share.held fit.held_once))
      ∙ ap (λ (x : ShareColumns). without_held l x.held_locks) e ∙ sym (put_same s.held_locks t _) in
      record {
        columns = λ i. record (e i) {
          held = λ k. column_without s.held t l v.share.held fit.held_once held k i;
          held_locks = listed i;
          doing = record (e i).doing { last_look = sym (put_same s.last_look t None) i };
        };
        held_once = once_without l v.share.held fit.held_once;
      }

  pub stamp_own : (c : Config) (event : Event)
      → RepresentsShare (stamped c v (entry_of s t event)).share (after_stamp c s t event) t
  unfolding after_stamp
  stamp_own c event =
      let begun : (l : ℕ) → is_among l v.share.begun ≡ s.has_begun t l =
      λ l. ap (λ (x : ShareColumns). x.has_begun l) e in
      record {
        columns = λ i. record (e i) {
          has_begun = λ l. begun_stamped s.has_begun t v.share.begun begun c event l i;
          log = (ap (λ (x : ShareColumns). entry_of s t event ∷ x.log) e
              ∙ sym (put_same s.log t (entry_of s t event ∷ s.log t))) i;
          doing = record (e i).doing {
            looks = (ap (λ (x : ShareColumns). looks_after event x.doing.looks) e
                ∙ sym (put_same s.looks t (looks_after event (s.looks t)))) i;
            last_look = sym (put_same s.last_look t None) i;
            round = (ap (λ (x : ShareColumns). round_after event x.doing.round) e
                ∙ sym (put_same s.round t (round_after event (s.round t)))) i;
            noted = sym (put_same s.noted t None) i;
            taking = (ap (λ (x : ShareColumns). taking_after event x.doing.taking) e
                ∙ sym (put_same s.taking t (taking_after event (s.taking t)))) i;
            unstamped = (ap (λ (x : ShareColumns). unstamped_after event x.doing.unstamped) e
                ∙ sym (put_same s.unstamped t (unstamped_after event (s.unstamped t)))) i;
            woken_from = sym (put_same s.woken_from t None) i;
          };
        };
        held_once = fit.held_once;
      }

  -- a take and a give of an item
  pub take_own : (i : Item) (j : ℕ) (x : Slot) → RepresentsShare (took v i j x).share (after_take s t i) t
  unfolding after_take
  take_own i j x = record {
    columns = λ k. record (e k) {
      doing = record (e k).doing {
        seen_in_section = (ap (λ (x : ShareColumns). seen_after (is_chain i) x.doing.seen_in_section) e
            ∙ sym (put_same s.seen_in_section t (seen_after (is_chain i) (s.seen_in_section t)))) k;
        round = (ap (λ (x : ShareColumns). cond (is_chain i) (in_its_chain x.doing.round) x.doing.round) e
            ∙ sym (put_same s.round t (cond (is_chain i) (in_its_chain (s.round t)) (s.round t)))) k;
      };
    };
    held_once = fit.held_once;
  }

  pub give_own : (i : Item) → RepresentsShare (gave v i).share (after_give s t i) t
  unfolding after_give
  give_own i = record {
    columns = λ k. record (e k) {
      doing = record (e k).doing {
        seen_in_section = (ap (λ (x : ShareColumns). seen_after (is_chain i) x.doing.seen_in_section) e
            ∙ sym (put_same s.seen_in_section t (seen_after (is_chain i) (s.seen_in_section t)))) k;
      };
    };
    held_once = fit.held_once;
  }

-- 3. The others

module _ (s : State) (t u : ℕ) (other : u ≢ t) where
  ne : t ≡ u → ⊥
  ne q = other (sym q)

  pub look_others : (l : ℕ) (counts : Bool) → share_in (after_look s t l counts) u ≡ share_in s u
  unfolding after_look
  look_others l counts =
      let looks_is : (after_look s t l counts).looks u ≡ s.looks u = put_other s.looks t _ u ne in
      let looks_in_all_is : (after_look s t l counts).looks_in_all u ≡ s.looks_in_all u =
      put_other s.looks_in_all t _ u ne in
      let last_look_is : (after_look s t l counts).last_look u ≡ s.last_look u = put_other s.last_look t _ u ne in
      let seen_in_section_is : (after_look s t l counts).seen_in_section u ≡ s.seen_in_section u =
      put_other s.seen_in_section t _ u ne in
      λ i. record (share_in s u) {
        doing = record (share_in s u).doing {
          looks = looks_is i;
          looks_in_all = looks_in_all_is i;
          last_look = last_look_is i;
          seen_in_section = seen_in_section_is i;
        };
      }

  pub seek_others : (l : ℕ) (by_try : Bool) → share_in (after_seek s t l by_try) u ≡ share_in s u
  unfolding after_seek
  seek_others l by_try =
      let round_is : (after_seek s t l by_try).round u ≡ s.round u = put_other s.round t _ u ne in
      let taking_is : (after_seek s t l by_try).taking u ≡ s.taking u = put_other s.taking t _ u ne in
      λ i. record (share_in s u) {
        doing = record (share_in s u).doing {
          taking = taking_is i;
          looks = put_other s.looks t 0 u ne i;
          round = round_is i;
        };
      }

  pub gain_others : (h : Held) → share_in (after_gain s t h.l.0 h.mode h.by_try) u ≡ share_in s u
  unfolding after_gain
  gain_others h =
      let held_locks_is : (after_gain s t h.l.0 h.mode h.by_try).held_locks u ≡ s.held_locks u =
      put_other s.held_locks t _ u ne in
      λ i. record (share_in s u) {
        held = put_at_row s.held t h.l.0 (Holds h.mode) u ne i;
        held_locks = held_locks_is i;
        has_begun = put_at_row s.has_begun t h.l.0 false u ne i;
        doing = record (share_in s u).doing {
          wanted = put_other s.wanted t None u ne i;
          called = put_other s.called t None u ne i;
          looks = put_other s.looks t 0 u ne i;
          last_look = put_other s.last_look t None u ne i;
          round = put_other s.round t None u ne i;
        };
      }

  pub drop_others : (l : ℕ) → share_in (after_drop s t l) u ≡ share_in s u
  unfolding after_drop
  drop_others l =
      let held_locks_is : (after_drop s t l).held_locks u ≡ s.held_locks u = put_other s.held_locks t _ u ne in
      λ i. record (share_in s u) {
        held = put_at_row s.held t l NotHeld u ne i;
        held_locks = held_locks_is i;
        doing = record (share_in s u).doing { last_look = put_other s.last_look t None u ne i };
      }

  pub stamp_others : (c : Config) (event : Event) → share_in (after_stamp c s t event) u ≡ share_in s u
  unfolding after_stamp
  stamp_others c event =
      let log_is : (after_stamp c s t event).log u ≡ s.log u = put_other s.log t _ u ne in
      let looks_is : (after_stamp c s t event).looks u ≡ s.looks u = put_other s.looks t _ u ne in
      let round_is : (after_stamp c s t event).round u ≡ s.round u = put_other s.round t _ u ne in
      let taking_is : (after_stamp c s t event).taking u ≡ s.taking u = put_other s.taking t _ u ne in
      let unstamped_is : (after_stamp c s t event).unstamped u ≡ s.unstamped u = put_other s.unstamped t _ u ne in
      λ i. record (share_in s u) {
        has_begun = begun_others c s.has_begun t u (facets event).section ne i;
        log = log_is i;
        doing = record (share_in s u).doing {
          looks = looks_is i;
          last_look = put_other s.last_look t None u ne i;
          round = round_is i;
          noted = put_other s.noted t None u ne i;
          taking = taking_is i;
          unstamped = unstamped_is i;
          woken_from = put_other s.woken_from t None u ne i;
        };
      }

  pub take_others : (i : Item) → share_in (after_take s t i) u ≡ share_in s u
  unfolding after_take
  take_others i =
      let seen_is : (after_take s t i).seen_in_section u ≡ s.seen_in_section u = put_other s.seen_in_section t _ u ne in
      let round_is : (after_take s t i).round u ≡ s.round u = put_other s.round t _ u ne in
      λ k. record (share_in s
      u) { doing = record (share_in s u).doing { seen_in_section = seen_is k; round = round_is k } }

  pub give_others : (i : Item) → share_in (after_give s t i) u ≡ share_in s u
  unfolding after_give
  give_others i =
      let seen_is : (after_give s t i).seen_in_section u ≡ s.seen_in_section u = put_other s.seen_in_section t _ u ne in
      λ k. record (share_in s u) { doing = record (share_in s u).doing { seen_in_section = seen_is k } }
