use Rattle.std.proofs.Common.{◌≡◌, ℕ, Option, Some, List, ◌∙◌, sym, ap, subst}
use Rattle.rpc_base.specs.declared.fact.Who.TheVariants.{Node}
use Rattle.rpc_laws.specs.Endpoints.{Endpoint, Lived}
use Rattle.lawful_history.specs.Told.{Answer, ask_event, NodeCall}
use Rattle.call_book.specs.Kept.{answer_in, answers_at}
use Rattle.call_book.specs.Shelf.{told_at}
use Rattle.call_book.proofs.BookLemmas.{answers-none, answers-put, calls-next, shelf-next}
use Rattle.call_book.proofs.book.Book.enter.Goals as goal

pub returns-in_ok-put-clause-entered : goal.returns-in_ok-put-clause-entered
returns-in_ok-put-clause-entered c = λ past t.
    let f : Lived = record { life = c.args.life; fact = c.args.fact.now } in
    let old = c.args.self.now in
    let who = c.in-Node.is ∙ ap Node (sym c.node.view_is) in
    record {
      servers = λ k j. shelf-next old past t f _ who c.server_told.result _ _ _ _ k j
          (c.server_told.ensures j) c.in_ok-note.ensures.noted (t.servers k j);
      paired = λ k j. shelf-next old past t f _ who c.paired_told.result _ _ _ _ k j
          (c.paired_told.ensures j) c.in_ok-note-2.ensures.noted (t.paired k j);
      opened = λ k j. shelf-next old past t f _ who c.opened_told.result _ _ _ _ k j
          (c.opened_told.ensures j) c.in_ok-note-3.ensures.noted (t.opened k j);
      connected = λ k j. shelf-next old past t f _ who c.connected_told.result _ _ _ _ k j
          (c.connected_told.ensures j) c.in_ok-note-4.ensures.noted (t.connected k j);
      asks = λ k j. shelf-next old past t f _ who c.in_ok-ask.ask _ _ _ _ k j
          (subst (λ (z : List ℕ). told_at j c.in_ok-ask.ask ≡ ask_event j c.args.fact.now.event z)
          c.bytes.ensures (c.in_ok-ask.ensures.told j)) c.in_ok-note-5.ensures.noted (t.asks k j);
      calls = calls-next old past t f _ who c.began-began.result _ c.began-began.ensures c.in_ok-note-6.ensures.noted;
      answers = answers-put old past t f _ who
          (record {
            at = record { node = c.call.inside.node; life = c.call.inside.life };
            session = c.call.inside.session;
            call = c.call.inside.call;
          })
          c.in-Some.answer _
          (subst (λ (o : Option (NodeCall × Answer)). (z : Endpoint) (k : ℕ) → answers_at z k o
          ≡ answer_in old (record { node = c.node.inside.0; life = c.args.life }) z k
          c.args.fact.now.event c.args.fact.now.first c.args.fact.now.second)
          (c.in-Some.is ∙ ap (λ (k : NodeCall). Some (k, c.in-Some.answer)) (sym c.call.view_is))
          c.in_ok-answered.ensures.answers)
          c.in_ok-put.ensures.put;
    }

pub returns-in_default-answered-clause-entered : goal.returns-in_default-answered-clause-entered
returns-in_default-answered-clause-entered c = λ past t.
    let f : Lived = record { life = c.args.life; fact = c.args.fact.now } in
    let old = c.args.self.now in
    let who = c.in-Node.is ∙ ap Node (sym c.node.view_is) in
    record {
      servers = λ k j. shelf-next old past t f _ who c.server_told.result _ _ _ _ k j
          (c.server_told.ensures j) c.in_ok-note.ensures.noted (t.servers k j);
      paired = λ k j. shelf-next old past t f _ who c.paired_told.result _ _ _ _ k j
          (c.paired_told.ensures j) c.in_ok-note-2.ensures.noted (t.paired k j);
      opened = λ k j. shelf-next old past t f _ who c.opened_told.result _ _ _ _ k j
          (c.opened_told.ensures j) c.in_ok-note-3.ensures.noted (t.opened k j);
      connected = λ k j. shelf-next old past t f _ who c.connected_told.result _ _ _ _ k j
          (c.connected_told.ensures j) c.in_ok-note-4.ensures.noted (t.connected k j);
      asks = λ k j. shelf-next old past t f _ who c.in_ok-ask.ask _ _ _ _ k j
          (subst (λ (z : List ℕ). told_at j c.in_ok-ask.ask ≡ ask_event j c.args.fact.now.event z)
          c.bytes.ensures (c.in_ok-ask.ensures.told j)) c.in_ok-note-5.ensures.noted (t.asks k j);
      calls = calls-next old past t f _ who c.began-began.result _ c.began-began.ensures c.in_ok-note-6.ensures.noted;
      answers = answers-none old past t f _ who
          (subst (λ (o : Option (NodeCall × Answer)). (z : Endpoint) (k : ℕ) → answers_at z k o
          ≡ answer_in old (record { node = c.node.inside.0; life = c.args.life }) z k
          c.args.fact.now.event c.args.fact.now.first c.args.fact.now.second) c.in_default-answered.is
          c.in_ok-answered.ensures.answers);
    }
