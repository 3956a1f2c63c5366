use Rattle.std.proofs.Common.{◌≡◌, false, None, refl, sym, ap, ◌∙◌}
use Rattle.std.specs.Prelude.{is_some}
use Rattle.std.proofs.lemmas.Bool.{false≢true}
use Rattle.rpc_laws.specs.Front.{control_of, is_control}
use Rattle.node_steps.specs.Seen.{arrival_of}
use Rattle.node_steps.proofs.ControlInbox.{arrived-front, control-front, none-front, some-front}
use Rattle.node_steps.proofs.inbox.Inbox.front.Goals as goal

pub returns-in_default-clause-none : goal.returns-in_default-clause-none
returns-in_default-clause-none c = (
  λ e. rw (← c.self.view_is) (none-front c.self.inside.ring.items
      (rw c.in_default.is at c.front.ensures)),
  λ e. refl,
)

pub unreachable-requires : goal.unreachable-requires
unreachable-requires c =
    let at = rw c.in-Some.is at c.front.ensures in
    let control = control-front c.self.inside.ring.items c.in-Some.front.now at
    c.self.invariant.1 in
    let none : None ≡ control_of c.in-Some.front.now.bytes =
    sym c.in_default-control.is ∙ c.control.ensures.value ∙ ap control_of c.bytes.ensures.bytes in
    let other : is_control c.in-Some.front.now.bytes ≡ false = ap is_some (sym none) in
    false≢true (sym other ∙ control)

pub returns-clause-there : goal.returns-clause-there
returns-clause-there c =
    let at = rw c.in-Some.is at c.front.ensures in
    rw (← c.self.view_is) (record {
      front = arrival_of c.in-Some.front.now;
      is_front = arrived-front c.self.inside.ring.items c.in-Some.front.now at;
      peer = c.peer.ensures;
      reads = ap control_of (sym c.bytes.ensures.bytes) ∙ sym c.control.ensures.value
          ∙ c.in-Some-control.is;
    })

pub returns-clause-none : goal.returns-clause-none
returns-clause-none c =
    let at = rw c.in-Some.is at c.front.ensures in (
      λ e. cc,
      λ e. absurd (some-front c.self.inside.ring.items c.in-Some.front.now at (c.self.view_is ∙ e)),
    )
