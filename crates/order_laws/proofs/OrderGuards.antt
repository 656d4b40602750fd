-- The guards of lock orders can be met on a running floor: p takes the class graph, and its mutex is admitted and
-- gained. It takes the graph again, is refused the other mutex, which is of the same class, and gives the first back.
-- Or it gains the mutex by its first exchange, without the graph.
use Rattle.order_laws.proofs.Names
use Names.{ℕ, true, false, List, [], Option, Some, None, refl, arith, Config, sections_in, Excl, Locked, Unlocked}
use Names.{Reversed, start_state, put, put_at, after_seek, after_look, after_gain, after_drop, after_stamp}
use Names.{TurnstileChain, ClassGraph, after_take, after_admit, after_refuse, Step, Seeks, Looks, TakesItem, Gains}
use Names.{Stamps, Drops, Admits, Refuses, KeepToOrder, after_all, FloorAll, floor_plan}
use Rattle.std.proofs.Common.{◌≡◌, ◌∷◌}

-- a floor with two mutexes of one class
unfoldable one_class : Config
one_class = record floor_plan { locks = 2; class = λ l. 0 }

unfoldable is_admitted : List Step
is_admitted =
    TakesItem 0 ClassGraph ∷ Admits 0 0 ∷ Seeks 0 0 false ∷ Looks 0 0 true ∷ Gains 0 0 Excl false ∷ Stamps 0
    (Locked (record { 0 = 0 }) Excl) ∷ []

unfoldable is_refused : List Step
is_refused =
    TakesItem 0 ClassGraph ∷ Refuses 0 1 0 ∷ Stamps 0 (Reversed (record { 0 = 1 }) (record { 0 = 0 })) ∷ Stamps 0
    (Unlocked (record { 0 = 0 }) Excl) ∷ Drops 0 0 Excl ∷ []

admitted_may : FloorAll 16 one_class (start_state one_class) is_admitted
unfolding floor_plan one_class is_admitted start_state after_take after_admit after_seek after_look after_gain
    after_stamp put put_at sections_in
admitted_may = grind arith

admitted_keep : KeepToOrder one_class (start_state one_class) is_admitted
unfolding floor_plan one_class is_admitted start_state after_take after_admit after_seek after_look after_gain
    after_stamp put put_at sections_in
admitted_keep = grind arith

-- and so can those of a first exchange that hits: p, which holds nothing, needs no admission
unfoldable is_first : List Step
is_first = Seeks 0 0 false ∷ Gains 0 0 Excl false ∷ Stamps 0 (Locked (record { 0 = 0 }) Excl) ∷ []

first_keep : KeepToOrder one_class (start_state one_class) is_first
unfolding floor_plan one_class is_first start_state after_seek after_gain after_stamp put put_at sections_in
first_keep = grind arith

-- But a look in a round, or a taking of the lock's chain there, needs one
unadmitted_look_refused : KeepToOrder one_class (start_state one_class) (Seeks 0 0 false ∷ Looks 0 0 true ∷ []) → ⊥
unfolding floor_plan one_class start_state after_seek put
unadmitted_look_refused k = grind arith

unadmitted_section_refused : KeepToOrder one_class (start_state one_class)
    (Seeks 0 0 false ∷ TakesItem 0 (TurnstileChain 0) ∷ []) → ⊥
unfolding floor_plan one_class start_state after_seek put
unadmitted_section_refused k = let x : ◌≡◌ {A = Option ℕ} None (Some 0) = k.1.0 refl _ refl refl in cc

refused_may : FloorAll 16 one_class (after_all one_class (start_state one_class) is_admitted) is_refused
unfolding floor_plan one_class is_admitted is_refused start_state after_take after_admit after_refuse after_seek
    after_look after_gain after_drop after_stamp put put_at sections_in
refused_may = grind arith

refused_keep : KeepToOrder one_class (after_all one_class (start_state one_class) is_admitted) is_refused
unfolding floor_plan one_class is_admitted is_refused start_state after_take after_admit after_refuse after_seek
    after_look after_gain after_drop after_stamp put put_at sections_in
refused_keep = grind arith
