-- a call that isn't named and whose piece fits goes well
use Rattle.std.proofs.Common.{inl, inr, arith}
use Rattle.rpc_outside.proofs.memory.bytes.MemSinkSink.write.Goals as goal

pub returns-clause-fails : goal.returns-clause-fails
returns-clause-fails c =
    rw (← c.self.view_is) (
      λ h. absurd (cc h),
      λ h. elim h [ inl named ↦ cc (c.is_named.ensures.1 named) | inr over ↦ absurd (omega arith) ],
    )
