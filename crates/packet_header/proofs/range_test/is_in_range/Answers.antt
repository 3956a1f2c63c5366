use Rattle.std.proofs.Common.{◌≡◌, Bool, true, false, not, Option, Some, None, is_some, sym, refl}
use Rattle.packet_header.proofs.Faults.{no_fault-message, message-no_fault, no_fault-control, control-no_fault}
use Rattle.packet_header.proofs.range_test.is_in_range.Goals as goal

-- an option is `None` exactly where the test says so
test-none : {A : Type 0} (o f : Option A) (b : Bool) → o ≡ f → is_some o ≡ not b → b ≡ true → f ≡ None
test-none None f true same e h = sym same
test-none (Some x) f true same e h = cc
test-none o f false same e h = cc

none-test : {A : Type 0} (o f : Option A) (b : Bool) → o ≡ f → is_some o ≡ not b → f ≡ None → b ≡ true
none-test None f true same e h = refl
none-test None f false same e h = cc
none-test (Some x) f b same e h = cc

pub returns-in-Message : goal.returns-in-Message
returns-in-Message c =
    rw c.in-Message.is (
      λ h. no_fault-message _
          (test-none _ _ _ c.message_fault.ensures c.is_none.ensures h),
      λ h. none-test _ _ _
          c.message_fault.ensures c.is_none.ensures (message-no_fault _ h),
    )

pub returns-in-Control : goal.returns-in-Control
returns-in-Control c =
    rw c.in-Control.is (
      λ h. (no_fault-control _ 0
          (test-none _ _ _ c.control_fault.ensures c.is_none-in-Control.ensures h)).0,
      λ h. none-test
          _ _ _ c.control_fault.ensures c.is_none-in-Control.ensures (control-no_fault _ h),
    )
