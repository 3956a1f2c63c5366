-- How long the packets of a session's calls are.
use Rattle.std.proofs.Common.{◌≡◌, ℕ, ◌+◌, Option, Some, None, refl, sym, ap, ◌∙◌, length, arith}
use Rattle.rpc_base.specs.declared.limits.TheConstants.{HEAD_BYTES}
use Rattle.std.specs.Prelude.{option_map}
use Rattle.std.specs.List.{find}
use Rattle.rpc_base.proofs.FirstLemmas.{found-holds}
use Rattle.buffer_pool.specs.Pool.{Pool, buf_at}
use Rattle.message_buffer.specs.Messages.{message_in}
use Rattle.message_buffer.proofs.MessageLemmas.{message-length}
use Rattle.packet_header.specs.Parts.{part_size}
use Rattle.rpc_laws.specs.Calls.{is_active}
use Rattle.rpc_laws.specs.Pacing.{call_size, packet_size}
use Rattle.client_core.specs.declared.call.ActiveCall.{ActiveCall}
use Rattle.client_core.specs.KeepsPool.{IsKept}
use Rattle.client_core.specs.Replies.{call_as, is_request}
use Rattle.client_core.specs.Session.{Session, bytes_in}
use Rattle.client_core.specs.Shown.{shown_active}
use Rattle.client_core.proofs.OutcomeLemmas.{active-found}
use Rattle.session_ends.specs.declared.stage.Stage.TheVariants.{Connected}
use Rattle.session_ends.specs.declared.side.Side.{Side}
use Rattle.session_ends.specs.Sides.{SideKept}
use Rattle.session_store.specs.Sides.{shown_side}
use Rattle.session_store.proofs.EndLemmas.{calls-end}

size-cases : (pool : Pool) (s : Session) (r k : ℕ) (o : Option ActiveCall) → call_as r s ≡ o
    → SideKept pool (record { peer = 0; stage = Connected; session = s })
    → HEAD_BYTES + part_size (bytes_in o) k ≡ call_size k (option_map (shown_active pool) o)
size-cases pool s r k None found kept = omega arith
size-cases pool s r k (Some c) found kept =
    let own = found-holds (is_request r) (IsKept pool) s.active c kept.kept found in
    let long : length (message_in (buf_at pool c.ask)) ≡ c.len =
    message-length (buf_at pool c.ask) c.len own.size in
    ap (λ n. HEAD_BYTES + part_size n k) (sym long)

pub size-shown : (pool : Pool) (s : Side) (r k : ℕ) → SideKept pool s
    → HEAD_BYTES + part_size (bytes_in (call_as r s.session)) k ≡ packet_size r k (Some (shown_side pool s))
size-shown pool s r k kept =
    size-cases pool s.session r k (call_as r s.session) refl kept
    ∙ ap (call_size k) (sym (ap (find (is_active r)) (calls-end s.stage pool s.peer s.session)
    ∙ active-found pool r s.session))
