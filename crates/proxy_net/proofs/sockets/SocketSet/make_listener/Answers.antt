use Rattle.std.proofs.Common.{◌≡◌, ◌+◌, vec_len, OnOk, Some, refl, rules, subst, sym}
use Rattle.proxy_net.specs.Registering.{listeners_from}
use Rattle.proxy_net.specs.Sockets.{file_at}
use Rattle.proxy_net.specs.Steps.{Steps, IsBind, IsFileKept, IsListen}
use Rattle.proxy_net.proofs.Going.{grows_through}
use Rattle.proxy_net.proofs.Listening.{listen_steps, listen_keeps, made_identity}
use Rattle.proxy_net.proofs.sockets.SocketSet.make_listener.Goals as goal

pub returns-clause-told : goal.returns-clause-told
returns-clause-told g c =
    let same : c.in-Ok.listener ≡ vec_len c.args.self.now.listeners = search rules in
    let asked = subst (λ n. Steps (IsBind (listeners_from + n) c.args.path.now c.args.replaces (Some c.in-Some.socket)) (g.S.Sockets.journal c.args.system.now) (g.S.Sockets.journal c.bound.new.system)) c.from.ensures c.in-Some.ensures.told in
    let steps = listen_steps (listeners_from + c.in-Ok.listener) c.args.path.now c.args.replaces c.identify-found.result c.in-Some.socket c.add_listener-answer.result asked c.identify-found.ensures c.add_listener-answer.ensures.told c.cleaned_up.ensures.told in
    subst (λ n. Steps (IsListen (listeners_from + n) c.args.path.now c.args.replaces c.cleaned_up.result) (g.S.Sockets.journal c.args.system.now) (g.S.Sockets.journal c.cleaned_up.new.system)) same
    (subst (λ answer. Steps (IsListen (listeners_from + c.in-Ok.listener) c.args.path.now c.args.replaces answer) (g.S.Sockets.journal c.args.system.now) (g.S.Sockets.journal c.cleaned_up.new.system)) (sym c.cleaned_up.ensures.answer) steps)

pub returns-clause-grows : goal.returns-clause-grows
returns-clause-grows g c = grows_through c.reserve_listener.ensures.goes c.add_listener-answer.ensures.grows

pub returns-clause-kept : goal.returns-clause-kept
returns-clause-kept g c =
    let same : c.in-Ok.listener ≡ vec_len c.args.self.now.listeners = search rules in
    let asked = subst (λ n. Steps (IsBind (listeners_from + n) c.args.path.now c.args.replaces (Some c.in-Some.socket)) (g.S.Sockets.journal c.args.system.now) (g.S.Sockets.journal c.bound.new.system)) c.from.ensures c.in-Some.ensures.told in
    let kept = listen_keeps (listeners_from + c.in-Ok.listener) c.args.path.now c.args.replaces c.identify-found.result c.in-Some.socket c.add_listener-answer.result c.bound_file-file.result (file_at c.add_listener-answer.new.self c.in-Ok.listener)
    (made_identity _ (λ file. refl) c.identify-found.result c.bound_file-file.result c.bound_file-file.ensures.is) c.add_listener-answer.ensures.kept asked c.identify-found.ensures c.add_listener-answer.ensures.told c.cleaned_up.ensures.told in
    subst (λ n. OnOk c.cleaned_up.result (Steps (IsFileKept (listeners_from + n) c.args.path.now c.args.replaces (file_at c.add_listener-answer.new.self n)) (g.S.Sockets.journal c.args.system.now) (g.S.Sockets.journal c.cleaned_up.new.system))) same
    (subst (λ answer. OnOk answer (Steps (IsFileKept (listeners_from + c.in-Ok.listener) c.args.path.now c.args.replaces (file_at c.add_listener-answer.new.self c.in-Ok.listener)) (g.S.Sockets.journal c.args.system.now) (g.S.Sockets.journal c.cleaned_up.new.system))) (sym c.cleaned_up.ensures.answer) kept)
