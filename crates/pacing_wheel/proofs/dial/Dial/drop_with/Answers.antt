use Rattle.std.proofs.Common.{ap, arith, length, sym, ◌∙◌, refl}
use Rattle.rpc_base.specs.Tables.{without_first}
use Rattle.rpc_base.proofs.FirstLemmas.{all-left}
use Rattle.pacing_wheel.specs.Wheel.{dial, is_entry_of, together}
use Rattle.pacing_wheel.specs.Chains.{list_at}
use Rattle.pacing_wheel.proofs.MergeLemmas.{keeps-all}
use Rattle.pacing_wheel.proofs.PushLemmas.{length-set}
use Rattle.pacing_wheel.proofs.DialLemmas.{found-fewer, stand-set, without-together}
use Rattle.pacing_wheel.proofs.dial.Dial.drop_with.Goals as goal

pub returns-in_default : goal.returns-in_default
returns-in_default c =
    let t = is_entry_of c.args.owner.now c.args.number in
    let items = c.args.self.now.items in
    ap (λ ps. dial c.args.self.now.cursor ps c.args.self.now.size)
    (sym (keeps-all t items (sym c.first_with.ensures ∙ c.in_default.is)))

pub drop_with-requires : goal.drop_with-requires
drop_with-requires c =
    let t = is_entry_of c.args.owner.now c.args.number in
    let ls = c.self.inside.chains.lists in
    let is = (rw (← c.self.view_is) at (sym c.first_with.ensures ∙ c.in-Some.is)) in
    let w = without-together t c.self.inside.cursor 0 c.place_of.result ls c.in-Some.first c.self.invariant.0 is
    (omega (arith, c.place_of.ensures)) in
    record { found = rw w.0 refl }

pub invariant_of-self : goal.invariant_of-self
invariant_of-self c =
    let t = is_entry_of c.args.owner.now c.args.number in
    let ls = c.self.inside.chains.lists in
    let i = c.place_of.result in
    let is = (rw (← c.self.view_is) at (sym c.first_with.ensures ∙ c.in-Some.is)) in
    let w = without-together t c.self.inside.cursor 0 i ls c.in-Some.first c.self.invariant.0 is
    (omega (arith, c.place_of.ensures)) in
    let fewer = found-fewer t (together ls) (rw is refl) in
    rw c.drop_with.ensures (
      stand-set c.self.inside.cursor 0 i ls (without_first t (list_at ls i)) c.self.invariant.0
          (λ P all. all-left t P (list_at ls i) all),
      omega (arith, ap length w.1, fewer, c.self.invariant.1),
      omega (arith, fewer, c.self.invariant.1, c.self.invariant.2),
      (λ some. length-set ls i (without_first t (list_at ls i)) ∙ c.self.invariant.3 some),
    )

pub returns : goal.returns
returns c =
    let t = is_entry_of c.args.owner.now c.args.number in
    let ls = c.self.inside.chains.lists in
    let is = (rw (← c.self.view_is) at (sym c.first_with.ensures ∙ c.in-Some.is)) in
    let w = without-together t c.self.inside.cursor 0 c.place_of.result ls c.in-Some.first c.self.invariant.0 is
    (omega (arith, c.place_of.ensures)) in
    rw (← c.self.view_is, c.drop_with.ensures) (ap (λ ps. dial c.self.inside.cursor ps c.self.inside.size) (sym w.1))
