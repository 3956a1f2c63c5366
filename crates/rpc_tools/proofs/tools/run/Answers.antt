-- each clause is a part of what a run did
use Rattle.rpc_tools.proofs.tools.run.Goals as goal

pub returns-clause-starts_none : goal.returns-clause-starts_none
returns-clause-starts_none g c = c.run_words.ensures.runs.starts_none

pub returns-clause-usage : goal.returns-clause-usage
returns-clause-usage g c = c.run_words.ensures.runs.usage

pub returns-clause-no_task : goal.returns-clause-no_task
returns-clause-no_task g c = c.run_words.ensures.runs.no_task

pub returns-clause-cause : goal.returns-clause-cause
returns-clause-cause g c = c.run_words.ensures.runs.cause

pub returns-clause-refuses : goal.returns-clause-refuses
returns-clause-refuses g c = c.run_words.ensures.runs.refuses

pub returns-clause-simulates : goal.returns-clause-simulates
returns-clause-simulates g c = c.run_words.ensures.runs.simulates

pub returns-clause-headline : goal.returns-clause-headline
returns-clause-headline g c = c.run_words.ensures.runs.headline

pub returns-clause-drills : goal.returns-clause-drills
returns-clause-drills g c = c.run_words.ensures.runs.drills

pub returns-clause-audits : goal.returns-clause-audits
returns-clause-audits g c = c.run_words.ensures.runs.audits

pub returns-clause-answers : goal.returns-clause-answers
returns-clause-answers g c = c.run_words.ensures.runs.answers

pub returns-clause-reads_nothing : goal.returns-clause-reads_nothing
returns-clause-reads_nothing g c = c.run_words.ensures.runs.reads_nothing

pub returns-clause-serves : goal.returns-clause-serves
returns-clause-serves g c = c.run_words.ensures.runs.serves

pub returns-clause-loads : goal.returns-clause-loads
returns-clause-loads g c = c.run_words.ensures.runs.loads

pub returns-clause-alone : goal.returns-clause-alone
returns-clause-alone g c = c.run_words.ensures.runs.alone

pub returns-clause-drilled : goal.returns-clause-drilled
returns-clause-drilled g c = c.run_words.ensures.runs.drilled
