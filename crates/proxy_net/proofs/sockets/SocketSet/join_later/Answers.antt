use Rattle.std.proofs.Common.{◌≡◌, ◌≤◌, ◌++◌, ◌∷◌, [], refl, rules, arith}
use Rattle.proxy_net.proofs.Going.{goes_through, goes_grows, grows_through, grows_on}
use Rattle.proxy_net.proofs.Tries.{tries_go, one_more_tried}
use Rattle.proxy_net.proofs.sockets.SocketSet.join_later.Goals as goal

pub returns-in-Ok-add_link-clause-grows : goal.returns-in-Ok-add_link-clause-grows
returns-in-Ok-add_link-clause-grows g c =
    let same : c.args.self.now.waits ≤ c.args.self.now.waits = omega arith in
    let items : c.push_back.new.self.items ≡ c.args.self.now.pending.items ++ c.number_of-number.result ∷ [] = search rules in
    let pushed = one_more_tried c.args.self.now c.number_of-number.result c.push_back.new.self.items items in
    grows_through (tries_go c.args.self.now _ refl refl refl refl same refl refl pushed)
    (grows_on {b = c.add_link.new.self} (grind (arith, c.add_link.ensures.listeners)) c.add_link.ensures.grows (tries_go c.add_link.new.self _ refl refl refl refl c.raised-self.ensures.grows refl refl (λ number tried. tried)))

pub returns-in-Err-clause-err : goal.returns-in-Err-clause-err
returns-in-Err-clause-err g c =
    let same : c.args.self.now.waits ≤ c.args.self.now.waits = omega arith in
    let items : c.push_back.new.self.items ≡ c.args.self.now.pending.items ++ c.number_of-number.result ∷ [] = search rules in
    let pushed = one_more_tried c.args.self.now c.number_of-number.result c.push_back.new.self.items items in
    goes_through (tries_go c.args.self.now _ refl refl refl refl same refl refl pushed) c.in-Err.ensures.err

pub returns-in-Err-clause-grows : goal.returns-in-Err-clause-grows
returns-in-Err-clause-grows g c =
    let same : c.args.self.now.waits ≤ c.args.self.now.waits = omega arith in
    let items : c.push_back.new.self.items ≡ c.args.self.now.pending.items ++ c.number_of-number.result ∷ [] = search rules in
    let pushed = one_more_tried c.args.self.now c.number_of-number.result c.push_back.new.self.items items in
    goes_grows (goes_through (tries_go c.args.self.now _ refl refl refl refl same refl refl pushed) c.in-Err.ensures.err)
