-- How many of the entries of the transmit ring are replies.
use Rattle.std.proofs.Common.{◌≡◌, List, [], ◌∷◌, refl, arith}
use Rattle.std.specs.Prelude.{count_by, map}
use Rattle.rpc_base.specs.declared.owner.Owner.{Owner}
use Rattle.rpc_base.specs.declared.owner.Owner.TheVariants.{Ask, Reply, Control}
use Rattle.rpc_base.proofs.FirstLemmas.{counted-cons}
use Rattle.packet_rings.specs.Entries.{is_reply as is_reply_entry, is_reply_owner}
use Rattle.packet_rings.specs.Values.{EntryValue}
use Rattle.rpc_laws.specs.declared.tables.Queued.{Queued}
use Rattle.rpc_laws.specs.Queues.{is_reply, replies}
use Rattle.session_ends.specs.Joined.{queued_of}

same-reply : (o : Owner) → is_reply o ≡ is_reply_owner o
same-reply (Ask s r) = refl
same-reply (Reply t r) = refl
same-reply Control = refl

pub replies-counted : (es : List EntryValue) → count_by is_reply_entry es ≡ replies (map queued_of es)
replies-counted [] = refl
replies-counted (e ∷ es) =
    let first = counted-cons is_reply_entry e es (is_reply_owner e.owner) refl in
    let second = counted-cons (λ (q : Queued). is_reply q.owner) (queued_of e) (map queued_of es)
    (is_reply_owner e.owner) (same-reply e.owner) in
    omega (arith, first, second, replies-counted es)
