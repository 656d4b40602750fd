-- The names that the proofs of `script_laws` use of the crates below and of its own definitions, in one place. What
-- lies behind a name says the line that passes it on. Lemmas of this crate are taken from their own files.
pub use Rattle.std.proofs.Common.{Bool, List, None, Option, Some, [], ap, append-nil, append_assoc, arith, cond}
pub use Rattle.std.proofs.Common.{decimal, drop, false, get_or, inl, inr, length, length-append, length-drop, max}
pub use Rattle.std.proofs.Common.{nat_le, nat_lt, not, one-add, refl, slice_get, slice_set, subst, suc, sym, take, true}
pub use Rattle.std.proofs.Common.{zero, ℕ}
pub use Rattle.std.proofs.lemmas.Bool.{and_from, and_parts, cases_eq, eq-eqb, eqb-true, false≢true, le-leb, leb-true}
pub use Rattle.std.proofs.lemmas.Bool.{lt-ltb, ltb-true, ne_eqb, or_from, or_left, true≢false}
pub use Rattle.std.proofs.lemmas.Bool.Decides.{nat_tests}
pub use Rattle.std.proofs.lemmas.Fmt.{decimal_digit, decimal_is_IsNumeral, first_decimal, length-decimal-le}
pub use Rattle.std.proofs.lemmas.List.{length-map, length-set, length-take, map-append, set-append_left}
pub use Rattle.std.proofs.lemmas.List.{take-append-drop, take-append-le, take_all}
pub use Rattle.std.proofs.lemmas.List.Elements.{All-append, All-cons, All-drop, All-head, All-nil, All-push, All-same}
pub use Rattle.std.proofs.lemmas.List.Elements.{All-tail, All-take, All-weaker}
pub use Rattle.std.proofs.lemmas.List.Folds.{list_all-append}
pub use Rattle.std.proofs.lemmas.List.Sums.{sum_by-append}
pub use Rattle.std.proofs.lemmas.Option.{none-some, option_and_then_some, same_Some, slice_get-map, slice_get_past}
pub use Rattle.std.proofs.lemmas.Option.{slice_get_within}
pub use Rattle.std.proofs.lemmas.Str.{digit_value_digit}
pub use Rattle.std.proofs.lemmas.Str.Parse.{digit_from_value}
pub use Rattle.std.specs.Char.{digit_value}
pub use Rattle.std.specs.Cmp.Lexicographic.{pointwise}
pub use Rattle.std.specs.List.{All, list_all, list_any, prefix_len}
pub use Rattle.std.specs.Map.{lookup}
pub use Rattle.std.specs.Option.{IfSome}
pub use Rattle.std.specs.Prelude.{codes, flat_map, fold, is_none, is_some, map, nat_eq, option_and_then, option_map}
pub use Rattle.std.specs.Prelude.{option_to_list, sum, unwrap_or}
pub use Rattle.lock_model.proofs.LeastCodes.{passed, passed_both}
pub use Rattle.lock_model.specs.Counts.{is_empty}
pub use Rattle.lock_model.specs.Holds.{Hold, Holds, is_unheld}
pub use Rattle.lock_model.specs.Limits.{greatest_number, greatest_priority, most_channels, most_classes, most_locks}
pub use Rattle.lock_model.specs.Limits.{most_open_tries, most_operations, most_scheduled, most_threads}
pub use Rattle.lock_model.specs.Names.{is_digit, is_letter, is_name, is_name_byte}
pub use Rattle.lock_model.specs.Operations.{AreNested, EndsBlock, Fit, IsBlock, IsProper, held_after, held_behind}
pub use Rattle.lock_model.specs.Operations.{held_of, held_through, hold_in, is_kind, is_of_kind, may_be_held, of_locks}
pub use Rattle.lock_model.specs.Operations.{operation_tests, tests_of, without_lock}
pub use Rattle.lock_model.specs.Script.{Faulty, Reading, Reads, faulty_or, plan_of, told}
unfoldable pub use Rattle.lock_model.specs.Script.{IsAccepted, reading_from, reading_of, reading_of_lines}
pub use Rattle.lock_model.specs.Script.Canonical.{chan_line, held_mode, kind_word, lines_of_ten, lock_line}
pub use Rattle.lock_model.specs.Script.Canonical.{operation_line, operation_lines, schedule_line, schedule_lines}
pub use Rattle.lock_model.specs.Script.Canonical.{thread_lines}
unfoldable pub use Rattle.lock_model.specs.Script.Canonical.{canonical}
pub use Rattle.lock_model.specs.Script.Faults.{byte_tests, endtry_tests, gaining_words, has_room, held_so}
pub use Rattle.lock_model.specs.Script.Faults.{is_before_threads, is_in_block, is_other, is_same_held, is_same_mode}
pub use Rattle.lock_model.specs.Script.Faults.{is_same_truth, learned_from, name_tests, names_chan, names_lock, of_kind}
pub use Rattle.lock_model.specs.Script.Faults.{of_sort, operation_words, place_tests, reads_number, reads_priority}
pub use Rattle.lock_model.specs.Script.Faults.{sleeping_words, spelled, statement_stages, tests_in_thread, word_tests}
unfoldable pub use Rattle.lock_model.specs.Script.Faults.{behind_line, line_fault}
pub use Rattle.lock_model.specs.Script.Learning.{Block, Known, OpenThread, blocks_behind, chan_named, class_named}
pub use Rattle.lock_model.specs.Script.Learning.{class_number, declared_as, learned, lock_named, lock_of, nothing_known}
pub use Rattle.lock_model.specs.Script.Learning.{op_of, thread_named, thread_of, threads_named, with_chan, with_class}
pub use Rattle.lock_model.specs.Script.Learning.{with_end, with_endtry, with_key, with_lock, with_number}
pub use Rattle.lock_model.specs.Script.Learning.{with_operation, with_thread, without_block}
pub use Rattle.lock_model.specs.Script.Lines.{digits_value, has_meaning, is_numeral, is_printable, is_same, lines_of}
pub use Rattle.lock_model.specs.Script.Lines.{number_of, number_up_to, priority_of, words_of}
pub use Rattle.lock_model.specs.Script.Statements.{Begins, Declares, DeclaresChan, Ends, EndsTry, IsDone, Operates}
pub use Rattle.lock_model.specs.Script.Statements.{Operation, Schedules, Statement, said_by, statement_of}
pub use Rattle.lock_model.specs.Tests.{Passes, Test, first_fault, test, where_some}
unfoldable pub use Rattle.lock_model.specs.Tests.{least_code}
pub use Rattle.lock_model.specs.Text.{chan_name, class_name, is_cond, line_of, lock_kind, lock_name, mode_letter}
pub use Rattle.lock_model.specs.Text.{spaced, thread_name}
pub use Rattle.lock_model.specs.declared.event.Held.{Held}
pub use Rattle.lock_model.specs.declared.numbers.ChanNo.{ChanNo}
pub use Rattle.lock_model.specs.declared.numbers.LockNo.{LockNo}
pub use Rattle.lock_model.specs.declared.numbers.ThreadNo.{ThreadNo}
pub use Rattle.lock_model.specs.declared.plan.ChanDecl.{ChanDecl}
pub use Rattle.lock_model.specs.declared.plan.Declared.{Declared}
pub use Rattle.lock_model.specs.declared.plan.Declared.TheVariants.{Chan, Lock, Thread}
pub use Rattle.lock_model.specs.declared.plan.Kind.{Kind}
pub use Rattle.lock_model.specs.declared.plan.Kind.TheVariants.{Mtx, Rw, Sx}
pub use Rattle.lock_model.specs.declared.plan.LockDecl.{LockDecl}
pub use Rattle.lock_model.specs.declared.plan.Mode.{Mode}
pub use Rattle.lock_model.specs.declared.plan.Mode.TheVariants.{Excl, Shared}
pub use Rattle.lock_model.specs.declared.plan.OfLocks.{OfLocks}
pub use Rattle.lock_model.specs.declared.plan.OfLocks.TheVariants.{Acquires, ClosesBlock, EditsAt, NoLock, ReadsAt}
pub use Rattle.lock_model.specs.declared.plan.OfLocks.TheVariants.{Releases, SleepsOn, WakesOn}
pub use Rattle.lock_model.specs.declared.plan.Op.{Op}
pub use Rattle.lock_model.specs.declared.plan.Op.TheVariants.{Add, Base, EndTry, Get, Release, Set, Show, Sleep, Take}
pub use Rattle.lock_model.specs.declared.plan.Op.TheVariants.{Try, WakeAll, WakeOne}
pub use Rattle.lock_model.specs.declared.plan.Plan.{Plan}
pub use Rattle.lock_model.specs.declared.plan.ThreadDecl.{ThreadDecl}
