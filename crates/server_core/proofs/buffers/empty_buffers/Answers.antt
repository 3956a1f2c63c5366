use Rattle.server_core.specs.Session.{ask_of}
use Rattle.std.proofs.Common.{[]}
use Rattle.server_core.proofs.GivenLemmas.{alone, answer-full, answer-own, answer-unheld, ask-full}
use Rattle.server_core.proofs.buffers.empty_buffers.Goals as goal

pub empty_ask-requires-clause-full : goal.empty_ask-requires-clause-full
empty_ask-requires-clause-full c =
    rw c.ask.ensures ((ask-full c.args.pool.now c.args.request.now.size
    (ask_of c.args.request.now.state) c.requires.kept.ask).0)

pub empty_ask-requires-clause-unheld : goal.empty_ask-requires-clause-unheld
empty_ask-requires-clause-unheld c =
    rw c.ask.ensures ((ask-full c.args.pool.now c.args.request.now.size
    (ask_of c.args.request.now.state) c.requires.kept.ask).1)

pub empty_answer-requires-clause-full : goal.empty_answer-requires-clause-full
empty_answer-requires-clause-full c =
    rw (c.answer.ensures, c.empty_ask.ensures, c.ask.ensures)
    (answer-full c.args.pool.now c.args.request.now []
    (alone c.args.pool.now c.args.request.now c.requires.kept c.requires.apart))

pub empty_answer-requires-clause-unheld : goal.empty_answer-requires-clause-unheld
empty_answer-requires-clause-unheld c =
    rw (c.answer.ensures, c.empty_ask.ensures, c.ask.ensures)
    (answer-unheld c.args.pool.now c.args.request.now []
    (alone c.args.pool.now c.args.request.now c.requires.kept c.requires.apart)
    c.requires.unheld)

pub empty_answer-requires-clause-own : goal.empty_answer-requires-clause-own
empty_answer-requires-clause-own c =
    rw (c.answer.ensures, c.empty_ask.ensures, c.ask.ensures)
    (answer-own c.args.pool.now c.args.request.now []
    (alone c.args.pool.now c.args.request.now c.requires.kept c.requires.apart))
