-- The words of `serve` and `load` by their texts, which are borrowed, and their numbers.
use Rattle.std.specs.Prelude.{option_map}
use Rattle.command_line.specs.Words.{LoadWords, ServeWords}
use Rattle.command_line.specs.declared.terms.LoadTerms.{LoadTerms}
use Rattle.command_line.specs.declared.terms.ServeTerms.{ServeTerms}

abbrev pub serve_words : ServeTerms → ServeWords
serve_words terms = record {
  addr = terms.addr.now;
  turns = terms.turns;
  workers = terms.workers;
  life = terms.life;
  relay = option_map (λ addr. addr.now) terms.relay;
  timeout = terms.timeout;
  idle = terms.idle;
}

abbrev pub load_words : LoadTerms → LoadWords
load_words terms = record {
  addr = terms.addr.now;
  calls = terms.calls;
  req_type = terms.req_type;
  size = terms.size;
  seed = terms.seed;
  turns = terms.turns;
  bind = terms.bind.now;
  frame = terms.frame;
  life = terms.life;
  timeout = terms.timeout;
  idle = terms.idle;
}
