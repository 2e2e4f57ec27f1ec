-- `SlotCounter::slots_since` refuses a bad number, its own first, and else takes the difference of the two places among the 48,000. Assumes nothing.
use Rattle.std.proofs.Common.{rules}
use Rattle.slot_counter.specs.Slots.{slots_since_of}
use Rattle.slot_counter.proofs.Laws.{slot_number_of-ok, slot_number_of-err, index_of-epoch_of, abs-lt}
use Rattle.slot_counter.proofs.SlotCounter.slots_since.Goals as goal

pub returns-in_err-slot_number : goal.returns-in_err-slot_number
unfolding slots_since_of
returns-in_err-slot_number c = search (rules, slot_number_of-err)

pub abs_slots-now_abs-requires : goal.abs_slots-now_abs-requires
abs_slots-now_abs-requires c = search (rules, slot_number_of-ok)

pub returns-in_err-slot_number-2 : goal.returns-in_err-slot_number-2
unfolding slots_since_of
returns-in_err-slot_number-2 c = search (rules, slot_number_of-ok, slot_number_of-err)

pub abs_slots-past_abs-requires : goal.abs_slots-past_abs-requires
abs_slots-past_abs-requires c = search (rules, slot_number_of-ok)

pub returns-then-now_abs-past_abs : goal.returns-then-now_abs-past_abs
unfolding slots_since_of
returns-then-now_abs-past_abs c = search (rules, slot_number_of-ok, index_of-epoch_of)

pub overflow_sub-around : goal.overflow_sub-around
overflow_sub-around c = search (rules, slot_number_of-ok, abs-lt)

pub returns : goal.returns
unfolding slots_since_of
returns c = search (rules, slot_number_of-ok, index_of-epoch_of)
