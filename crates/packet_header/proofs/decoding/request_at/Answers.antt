-- Six bytes hold numbers below 2^48: two bytes, and four behind them.
use Rattle.std.proofs.Common.{arith}
use Rattle.std.proofs.lemmas.List.{take_rest}
use Rattle.packet_header.proofs.Bytes.{number_fits, request-number}
use Rattle.packet_header.proofs.decoding.request_at.Goals as goal

pub of-requires-clause-turn : goal.of-requires-clause-turn
of-requires-clause-turn c =
    let fits = number_fits 10 6 c.args.bytes.now (λ k. let f = c.type_inv.bytes k in omega arith) in
    let split = request-number c.args.bytes.now in
    let high = rw (take_rest c.args.bytes.now 10) at c.read_u16-high.ensures in
    let low = rw (take_rest c.args.bytes.now 12) at c.read_u32-low.ensures in
    omega arith

pub returns : goal.returns
returns c =
    let split = request-number c.args.bytes.now in
    let high = rw (take_rest c.args.bytes.now 10) at c.read_u16-high.ensures in
    let low = rw (take_rest c.args.bytes.now 12) at c.read_u32-low.ensures in
    omega arith
