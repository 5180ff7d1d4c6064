use Rattle.std.proofs.Common.{refl, subst, sym}
use Rattle.proxy_net.specs.Sockets.{AfterAcceptIn}
use Rattle.link_traits.specs.declared.links.Count.TheVariants.{Listener, Waits}
use Rattle.proxy_net.proofs.Going.{goes_through, kept_rose, accept_through, keeps_wishes, goes_grows, grows_through}
use Rattle.std.proofs.Common.{◌+◌, ◌≤◌, ◌^◌, ◌∙◌, inl, inr, ap, arith, vec_len}
use Rattle.link_traits.specs.Answers.{client_link}
use Rattle.link_traits.specs.Numbers.{number_of}
use Rattle.proxy_net.specs.Sockets.{sessions_after}
use Rattle.proxy_net.specs.Steps.{Steps, IsAccept}
use Rattle.proxy_net.proofs.Telling.{steps_none, steps_weaker}
use Rattle.proxy_net.proofs.Listening.{arrived, nobody_arrived, failed_arrival}
use Rattle.proxy_net.proofs.sockets.SocketSet.accept.Goals as goal

pub returns-in-Client-clause-failed : goal.returns-in-Client-clause-failed
returns-in-Client-clause-failed g c = λ failed.
    let before = goes_through c.reserve.ensures.goes c.take_client.ensures.goes in
    kept_rose _ _ _ (before.counts (Listener c.args.listener)) (c.make_session.ensures.failed failed)

pub returns-in-Client-clause-wishes : goal.returns-in-Client-clause-wishes
returns-in-Client-clause-wishes g c =
    accept_through _ c.make_session.result (goes_through c.reserve.ensures.goes c.take_client.ensures.goes) c.make_session.ensures.wishes

pub returns-in-NotReady-clause-not_ready : goal.returns-in-NotReady-clause-not_ready
returns-in-NotReady-clause-not_ready g c = λ _. kept_rose _ _ _ (c.reserve.ensures.goes.counts Waits) (c.in-NotReady.ensures.not_ready refl)

pub returns-in-Failed-clause-failed : goal.returns-in-Failed-clause-failed
returns-in-Failed-clause-failed g c = λ _.
    let before = goes_through c.reserve.ensures.goes c.take_client.ensures.goes in
    kept_rose _ _ _ (before.counts (Listener c.args.listener)) c.fail_accept-in-Failed.ensures.rose

pub returns-in-Failed-clause-wishes : goal.returns-in-Failed-clause-wishes
returns-in-Failed-clause-wishes g c =
    let before = goes_through c.reserve.ensures.goes c.take_client.ensures.goes in
    subst (λ answer. AfterAcceptIn answer c.args.self.now c.fail_accept-in-Failed.new.self) (sym c.fail_accept-in-Failed.ensures.failed)
    (keeps_wishes (goes_through before c.fail_accept-in-Failed.ensures.goes))

pub returns-then-is_err-clause-grows : goal.returns-then-is_err-clause-grows
returns-then-is_err-clause-grows g c = goes_grows (goes_through c.reserve.ensures.goes c.stall.ensures.goes)

pub returns-in_default-clause-grows : goal.returns-in_default-clause-grows
returns-in_default-clause-grows g c = goes_grows (goes_through c.reserve.ensures.goes c.fail_accept.ensures.goes)

pub returns-in-Client-clause-grows : goal.returns-in-Client-clause-grows
returns-in-Client-clause-grows g c = grows_through (goes_through c.reserve.ensures.goes c.take_client.ensures.goes) c.make_session.ensures.grows

pub returns-in-NotReady-clause-grows : goal.returns-in-NotReady-clause-grows
returns-in-NotReady-clause-grows g c = goes_grows (goes_through c.reserve.ensures.goes c.take_client.ensures.goes)

pub returns-in-Failed-clause-grows : goal.returns-in-Failed-clause-grows
returns-in-Failed-clause-grows g c = goes_grows (goes_through (goes_through c.reserve.ensures.goes c.take_client.ensures.goes) c.fail_accept-in-Failed.ensures.goes)

pub returns-in_default-clause-failed : goal.returns-in_default-clause-failed
returns-in_default-clause-failed g c = λ _. kept_rose _ _ _ (c.reserve.ensures.goes.counts (Listener c.args.listener)) c.fail_accept.ensures.rose

pub returns-in_default-clause-told : goal.returns-in_default-clause-told
returns-in_default-clause-told g c = λ own.
    let none : 2 ^ 32 ≤ c.args.self.now.sessions + 1 = grind (arith, c.in_default.ensures, c.reserve.ensures.goes.sessions) in
    subst (λ answer. Steps (IsAccept c.args.listener (vec_len c.args.self.now.listeners) c.args.self.now.sessions answer) (g.S.Sockets.journal c.args.system.now) (g.S.Sockets.journal c.args.system.now)) (sym c.fail_accept.ensures.failed)
    (steps_none _ (inl (refl, inr none)))

pub returns-in-Client-clause-told : goal.returns-in-Client-clause-told
returns-in-Client-clause-told g c = λ own.
    let next = c.in-Some.ensures.1 ∙ ap (λ n. n + 1) c.reserve.ensures.goes.sessions in
    steps_weaker
    (arrived c.args.listener (vec_len c.args.self.now.listeners) c.args.self.now.sessions c.number_of.result _ c.make_session.result c.number_of.ensures.number next c.make_session.ensures.ready c.make_session.ensures.fault (λ other e. (c.make_session.ensures.numbered other e).0))
    (c.in-Client.ensures.told (c.reserve.ensures.goes.listener_tokens c.args.listener own))

pub returns-in-NotReady-clause-told : goal.returns-in-NotReady-clause-told
returns-in-NotReady-clause-told g c = λ own.
    let next = c.in-Some.ensures.1 ∙ ap (λ n. n + 1) c.reserve.ensures.goes.sessions in
    steps_weaker (nobody_arrived c.args.listener (vec_len c.args.self.now.listeners) c.args.self.now.sessions c.number_of.result (c.number_of.ensures.number ∙ ap (λ s. number_of (client_link s)) next))
    (c.in-NotReady.ensures.told (c.reserve.ensures.goes.listener_tokens c.args.listener own))

pub returns-in-Failed-clause-told : goal.returns-in-Failed-clause-told
returns-in-Failed-clause-told g c = λ own.
    let next = c.in-Some.ensures.1 ∙ ap (λ n. n + 1) c.reserve.ensures.goes.sessions in
    subst (λ answer. Steps (IsAccept c.args.listener (vec_len c.args.self.now.listeners) c.args.self.now.sessions answer) (g.S.Sockets.journal c.args.system.now) (g.S.Sockets.journal c.take_client.new.system)) (sym c.fail_accept-in-Failed.ensures.failed)
    (steps_weaker (failed_arrival c.args.listener (vec_len c.reserve.new.self.listeners) (vec_len c.args.self.now.listeners) c.args.self.now.sessions c.number_of.result c.reserve.ensures.goes.number (c.number_of.ensures.number ∙ ap (λ s. number_of (client_link s)) next))
    (c.in-Failed.ensures.told (c.reserve.ensures.goes.listener_tokens c.args.listener own)))

pub returns-in_default-clause-sessions : goal.returns-in_default-clause-sessions
returns-in_default-clause-sessions g c =
    c.fail_accept.ensures.goes.sessions ∙ c.reserve.ensures.goes.sessions ∙ sym (ap (λ answer. sessions_after answer c.args.self.now.sessions) c.fail_accept.ensures.failed)

pub returns-in-Client-clause-sessions : goal.returns-in-Client-clause-sessions
returns-in-Client-clause-sessions g c =
    c.make_session.ensures.sessions ∙ ap (sessions_after c.make_session.result) (c.take_client.ensures.goes.sessions ∙ c.reserve.ensures.goes.sessions)

pub returns-in-Failed-clause-sessions : goal.returns-in-Failed-clause-sessions
returns-in-Failed-clause-sessions g c =
    c.fail_accept-in-Failed.ensures.goes.sessions ∙ c.take_client.ensures.goes.sessions ∙ c.reserve.ensures.goes.sessions ∙ sym (ap (λ answer. sessions_after answer c.args.self.now.sessions) c.fail_accept-in-Failed.ensures.failed)
