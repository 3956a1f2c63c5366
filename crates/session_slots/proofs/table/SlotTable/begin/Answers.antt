use Rattle.std.proofs.Common.{arith, sym, refl}
use Rattle.std.proofs.lemmas.Grind.{common_steps}
use Rattle.session_slots.proofs.SlotsLemmas.{activates, begun_sound, lowest_within, new_number}
use Rattle.session_slots.proofs.table.SlotTable.begin.Goals as goal

pub invariant_of-self-2 : goal.invariant_of-self-2
invariant_of-self-2 c =
    let within = lowest_within _ _ _ c.self.view_is c.self.invariant (sym c.in-Some.ensures) in
    begun_sound _ _ _ _ _ c.self.invariant within (omega arith) (grind (arith, common_steps))

pub returns-clause-sound : goal.returns-clause-sound
returns-clause-sound c =
    let within = lowest_within _ _ _ c.self.view_is c.self.invariant (sym c.in-Some.ensures) in
    begun_sound _ _ _ _ _ c.self.invariant within (omega arith) (grind (arith, common_steps))

pub returns-clause-new_number : goal.returns-clause-new_number
returns-clause-new_number c =
    let within = lowest_within _ _ _ c.self.view_is c.self.invariant (sym c.in-Some.ensures) in
    new_number _ c.in-Some.slot _ _ _ c.self.view_is c.self.invariant within (omega arith) refl

pub returns-clause-active : goal.returns-clause-active
returns-clause-active c =
    activates _ _ c.in-Some.slot _ _ _ c.self.view_is (λ within. omega arith) (sym c.in-Some.ensures) refl
