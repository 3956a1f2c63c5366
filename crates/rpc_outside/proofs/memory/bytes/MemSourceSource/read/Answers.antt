-- what was given is the front of what was left
use Rattle.rpc_outside.proofs.Moving.{gives-front}
use Rattle.rpc_outside.proofs.memory.bytes.MemSourceSource.read.Goals as goal

pub returns-clause-bytes : goal.returns-clause-bytes
returns-clause-bytes c =
    let given = rw c.deref.ensures.value at c.copy_front-count.ensures.bytes in
    rw (← c.self.view_is) (gives-front c.self.inside.bytes.items _ c.self.inside.at _ given)
