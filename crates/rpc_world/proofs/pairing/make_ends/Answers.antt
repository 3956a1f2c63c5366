use Rattle.std.proofs.lemmas.Result.{err_from_is_err_and}
use Rattle.std.proofs.Common.{◌≡◌, ◌∙◌, ap, length, arith, refl, subst, IfErr}
use Rattle.rpc_base.specs.declared.event.Event.TheVariants.{PairedClient, PairedServer}
use Rattle.rpc_world.specs.Answered.{End}
use Rattle.rpc_world.proofs.PairLemmas.{client-made, ends-by, fits-other, fits-own, fits-unspent}
use Rattle.rpc_world.proofs.PairLemmas.{notes-end, same-end, server-made, still-end}
use Rattle.session_mgmt.specs.Refusals.{refused}
use Rattle.rpc_world.proofs.StepLemmas.{grew-facts}
use Rattle.rpc_world.proofs.pairing.make_ends.Goals as goal

pub returns-clause-performed : goal.returns-clause-performed
returns-clause-performed c =
    let is_a : c.from-client.result ≡ c.args.a = c.from-client.ensures ∙ c.a.view_is in
    let is_b : c.from-server.result ≡ c.args.b = c.from-server.ensures ∙ c.b.view_is in
    let z = c.stage.inside in
    let asking = c.at_mut-asking.result.now in
    let serving = c.at_mut-serving.result.now in
    let at_a = rw is_a at c.at_mut-asking.ensures.value in
    let at_b = rw (is_a, is_b) at c.at_mut-serving.ensures.value in
    let is_u = c.life-client_life.ensures.life
    ∙ ap (λ (e : End). e.timed.lists.life) (same-end _ c.args.a _ asking (rw is_a at c.at-3.ensures) at_a) in
    let is_v = c.life-server_life.ensures.life
    ∙ ap (λ (e : End). e.timed.lists.life)
    (still-end _ c.args.a c.args.b _ _ serving c.requires.two (rw is_b at c.at-4.ensures) at_b) in
    let of_client = c.next_number-of_client.result in
    let of_server = c.next_number-of_server.result in
    let client_life = c.life-client_life.result in
    let server_life = c.life-server_life.result in
    let is_p = c.next_number-of_client.ensures.number ∙ (c.from.ensures ∙ (c.next_client.ensures
    ∙ ap (λ (e : End). length e.timed.lists.clients) (same-end _ c.args.a _ asking (rw is_a at c.at.ensures) at_a))) in
    let is_q = c.next_number-of_server.ensures.number ∙ (c.next_server.ensures
    ∙ ap (λ (e : End). e.timed.lists.server_numbers)
    (still-end _ c.args.a c.args.b _ _ serving c.requires.two (rw is_b at c.at-2.ensures) at_b)) in
    let client_fits = fits-own c.args.a c.args.credits _ _ asking c.stage.view_is c.requires.client_fits
    at_a in
    let server_fits = fits-other c.args.a c.args.b c.args.credits _ _ _ serving c.stage.view_is
    c.requires.two c.requires.server_fits at_b in
    let first = rw (c.b.view_is, c.in_ok-made.ensures.made) at c.pair_client.ensures.makes in
    let second = rw (c.a.view_is, c.in_ok-made-2.ensures.made) at c.pair_server.ensures.makes in
    let m = notes-end c.args.a (λ l. PairedClient (length l.clients) c.args.b of_server c.args.credits server_life)
    z.worked asking c.pair_client.new.self first.noted (λ l. refl) (λ l. refl) c.pair_client.ensures.leaves
    (client-made c.args.b of_server c.args.credits server_life asking c.pair_client.new.self first.noted
    client_fits first.step) in
    let n = notes-end c.args.b (λ l. PairedServer l.server_numbers c.args.a of_client c.args.credits client_life)
    z.worked serving c.pair_server.new.self second.noted (λ l. refl) (λ l. refl) c.pair_server.ensures.leaves
    (server-made c.args.a of_client c.args.credits client_life serving c.pair_server.new.self second.noted
    server_fits second.step) in
    let whole = c.in_ok-check_whole.ensures.whole in
    rw (is_a, is_b) (ends-by c.args.a c.args.b c.args.credits of_client of_server client_life
    server_life _ asking _ serving _ _ _ c.requires.two at_a at_b is_p is_q is_u is_v m n _ _ _ _
    c.stage.view_is (grew-facts _ _ _ _ _ first.grew (second.grew.since whole)) (grew-facts _ _ _ _ _ second.grew whole))

pub made-requires : goal.made-requires
made-requires c =
    let is_a : c.from-client.result ≡ c.args.a = c.from-client.ensures ∙ c.a.view_is in
    let fits = fits-own c.args.a c.args.credits _ _ c.at_mut-asking.result.now c.stage.view_is
    c.requires.client_fits (rw is_a at c.at_mut-asking.ensures.value) in
    record {
      fits = subst (λ o. IfErr c.pair_client.result (λ why. refused why ≡ o)) fits
          c.pair_client.ensures.refused;
    }

pub made-requires-2 : goal.made-requires-2
made-requires-2 c =
    let is_a : c.from-client.result ≡ c.args.a = c.from-client.ensures ∙ c.a.view_is in
    let is_b : c.from-server.result ≡ c.args.b = c.from-server.ensures ∙ c.b.view_is in
    let fits = fits-other c.args.a c.args.b c.args.credits _ _ _ c.at_mut-serving.result.now
    c.stage.view_is c.requires.two c.requires.server_fits
    (rw (is_a, is_b) at c.at_mut-serving.ensures.value) in
    record {
      fits = subst (λ o. IfErr c.pair_server.result (λ why. refused why ≡ o)) fits
          c.pair_server.ensures.refused;
    }

pub next_number-of_server-requires : goal.next_number-of_server-requires
next_number-of_server-requires c =
    let is_b : c.from-server.result ≡ c.args.b = c.from-server.ensures ∙ c.b.view_is in
    let free = fits-unspent c.args.b _ c.args.credits _ _ _ c.stage.view_is is_b
    c.requires.server_fits c.at-2.ensures in
    omega (arith, free.1, c.next_server.ensures)

pub returns-in_err-made-clause-cause : goal.returns-in_err-made-clause-cause
returns-in_err-made-clause-cause c =
    let one = c.in_err-made.ensures.lacks in
    let risen = c.pair_client.ensures.cause in
    let p = err_from_is_err_and c.from_residual.result c.from_residual.ensures.1 in
    rw p.1 (record { no_less = omega (arith, risen.no_less); rose = omega (arith, one, risen.rose) })

pub returns-in_err-made-2-clause-cause : goal.returns-in_err-made-2-clause-cause
returns-in_err-made-2-clause-cause c =
    let one = c.in_err-made-2.ensures.lacks in
    let first = c.pair_client.ensures.cause.no_less in
    let risen = c.pair_server.ensures.cause in
    let p = err_from_is_err_and c.from_residual-in_err-made-2.result
    c.from_residual-in_err-made-2.ensures.1 in
    rw p.1 (record {
      no_less = omega (arith, first, risen.no_less);
      rose = omega (arith, first, one, risen.rose);
    })
