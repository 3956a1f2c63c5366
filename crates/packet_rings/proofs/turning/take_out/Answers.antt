use Rattle.std.proofs.Common.{◌<◌, ◌≡◌, ◌-◌, length, arith}
use Rattle.packet_rings.specs.Entries.{is_entry}
use Rattle.packet_rings.proofs.TurningLemmas.{find-turned, find-none, without-none, popped-items}
use Rattle.packet_rings.proofs.TurningLemmas.{taken-out, taken-within}
use Rattle.packet_rings.proofs.turning.take_out.Goals as goal

pub returns-then-before-len-clause-taken : goal.returns-then-before-len-clause-taken
returns-then-before-len-clause-taken c =
    let none = find-none (is_entry c.args.owner.now c.args.number) c.args.entries.now.items
    c.turn_to-before.result c.turn_to-before.ensures.before (omega arith) in
    cc

pub returns-then-before-len-clause-left : goal.returns-then-before-len-clause-left
returns-then-before-len-clause-left c =
    let none = without-none (is_entry c.args.owner.now c.args.number) c.args.entries.now.items
    c.turn_to-before.result c.turn_to-before.ensures.before (omega arith) in
    cc

pub turn_by-requires-clause-some : goal.turn_by-requires-clause-some
turn_by-requires-clause-some c =
    let within : c.turn_to-before.result < length c.args.entries.now.items = omega arith in
    let popped = popped-items _ _ _ _ c.turn_to-before.ensures.turned c.pop_front-entry.ensures.items within in
    omega arith

pub turn_by-requires-clause-within : goal.turn_by-requires-clause-within
turn_by-requires-clause-within c =
    let within : c.turn_to-before.result < length c.args.entries.now.items = omega arith in
    let popped = popped-items _ _ _ _ c.turn_to-before.ensures.turned c.pop_front-entry.ensures.items within in
    omega arith

pub returns-clause-taken : goal.returns-clause-taken
returns-clause-taken c =
    let found = find-turned (is_entry c.args.owner.now c.args.number) c.args.entries.now.items
    c.turn_to-before.result c.turn_to-before.ensures.before (omega arith) in
    cc

pub returns-clause-left : goal.returns-clause-left
returns-clause-left c =
    let within : c.turn_to-before.result < length c.args.entries.now.items = omega arith in
    let rest : c.len-len.result - c.turn_to-before.result - 1
    ≡ length c.args.entries.now.items - c.turn_to-before.result - 1 = omega arith in
    taken-out _ _ _ _ _ _ _ c.turn_to-before.ensures.before c.turn_to-before.ensures.turned
    c.pop_front-entry.ensures.items c.turn_by.ensures within rest

pub returns-then-before-len-clause-within : goal.returns-then-before-len-clause-within
returns-then-before-len-clause-within c =
    taken-within _ _ _ (returns-then-before-len-clause-left c) c.requires.within

pub returns-clause-within : goal.returns-clause-within
returns-clause-within c = taken-within _ _ _ (returns-clause-left c) c.requires.within
