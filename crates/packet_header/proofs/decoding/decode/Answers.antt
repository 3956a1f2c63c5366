-- Each exit answers as `decoded` does, and so each clause holds there.
use Rattle.std.proofs.Common.{rules}
use Rattle.packet_header.specs.Reading.{decoded}
use Rattle.packet_header.proofs.Readings.{reading-found, reading-refused, reading-spelled}
use Rattle.packet_header.proofs.decoding.decode.Goals as goal

pub returns-in-Some-OfMessage-clause-exact : goal.returns-in-Some-OfMessage-clause-exact
unfolding decoded
returns-in-Some-OfMessage-clause-exact c = search rules

pub returns-in-Some-OfMessage-clause-spelled : goal.returns-in-Some-OfMessage-clause-spelled
returns-in-Some-OfMessage-clause-spelled c =
    reading-spelled _ c.args.bytes.now (returns-in-Some-OfMessage-clause-exact c)

pub returns-in-Some-OfMessage-clause-found : goal.returns-in-Some-OfMessage-clause-found
returns-in-Some-OfMessage-clause-found c = reading-found _ c.args.bytes.now (returns-in-Some-OfMessage-clause-exact c)

pub returns-in-Some-OfMessage-clause-refused : goal.returns-in-Some-OfMessage-clause-refused
returns-in-Some-OfMessage-clause-refused c =
    reading-refused _ c.args.bytes.now (returns-in-Some-OfMessage-clause-exact c)

pub returns-in-Some-OfControl-clause-exact : goal.returns-in-Some-OfControl-clause-exact
unfolding decoded
returns-in-Some-OfControl-clause-exact c = search rules

pub returns-in-Some-OfControl-clause-spelled : goal.returns-in-Some-OfControl-clause-spelled
returns-in-Some-OfControl-clause-spelled c =
    reading-spelled _ c.args.bytes.now (returns-in-Some-OfControl-clause-exact c)

pub returns-in-Some-OfControl-clause-found : goal.returns-in-Some-OfControl-clause-found
returns-in-Some-OfControl-clause-found c = reading-found _ c.args.bytes.now (returns-in-Some-OfControl-clause-exact c)

pub returns-in-Some-OfControl-clause-refused : goal.returns-in-Some-OfControl-clause-refused
returns-in-Some-OfControl-clause-refused c =
    reading-refused _ c.args.bytes.now (returns-in-Some-OfControl-clause-exact c)

pub returns-in-None-clause-exact : goal.returns-in-None-clause-exact
unfolding decoded
returns-in-None-clause-exact c = search rules

pub returns-in-None-clause-found : goal.returns-in-None-clause-found
returns-in-None-clause-found c = reading-found _ c.args.bytes.now (returns-in-None-clause-exact c)

pub returns-in-None-clause-refused : goal.returns-in-None-clause-refused
returns-in-None-clause-refused c =
    reading-refused _ c.args.bytes.now (returns-in-None-clause-exact c)
