-- What holds over one call and then another.
use Rattle.std.proofs.Common.{ℕ, vec_len, ◌≤◌, ◌<◌, ◌-◌, ◌^◌, ◌∙◌, arith, subst}
use Rattle.link_traits.specs.Told.{Rose}
use Rattle.link_traits.specs.Tables.{HasWish}
use Rattle.link_traits.specs.declared.links.Accepted.{Accepted}
use Rattle.link_traits.specs.declared.links.Accepted.TheVariants.{New, NotReady, Failed as Refused, Memory}
use Rattle.link_traits.specs.declared.links.Ready.{Ready}
use Rattle.link_traits.specs.declared.links.Ready.TheVariants.{Listener, Link, Quiet, Failed}
use Rattle.proxy_net.specs.Sockets.{GoesOn, Grows, KeepsWishesIn, AfterAcceptIn, IsWished}
use Rattle.proxy_net.specs.declared.sockets.SocketSet.{SocketSet}

-- a count that rose, and then didn't fall
pub rose_kept : (before between after : ℕ) → Rose before between → between ≤ after → Rose before after
rose_kept before between after rose kept below =
    let less : between < 2 ^ 64 - 1 = omega (arith, kept, below) in
    let r : before < between = rose less in
    omega (arith, r, kept)

-- a count that didn't fall, and then rose
pub kept_rose : (before between after : ℕ) → before ≤ between → Rose between after → Rose before after
kept_rose before between after kept rose below = let r : between < after = rose below in omega (arith, kept, r)

pub goes_through : {T L : Type 0} → {a b c : SocketSet T L} → GoesOn a b → GoesOn b c → GoesOn a c
goes_through p q = record {
  counts = λ count. let x = p.counts count in let y = q.counts count in omega (arith, x, y);
  wishes = λ link. q.wishes link ∙ p.wishes link;
  sessions = q.sessions ∙ p.sessions;
  number = q.number ∙ p.number;
  paths = λ number path at. p.paths number path (q.paths number path at);
  links = λ link placed. q.links link (p.links link placed);
  listeners = λ listener placed. q.listeners listener (p.listeners listener placed);
  link_places = λ number below queued. q.link_places number below (p.link_places number below queued);
  listener_places = λ place below queued. q.listener_places place below (p.listener_places place below queued);
  link_tokens = λ number own. q.link_tokens number (p.link_tokens number own);
  listener_tokens = λ place own. q.listener_tokens place (p.listener_tokens place own);
  files = λ place path below at. p.files place path below (q.files place path (omega (arith, below, p.number)) at);
  retries = λ number tried. q.retries number (p.retries number tried);
}

pub goes_grows : {T L : Type 0} → {a b : SocketSet T L} → GoesOn a b → Grows a b
goes_grows p = record { each = p.counts; links = p.links; listeners = p.listeners; link_places = p.link_places; listener_places = p.listener_places; link_tokens = p.link_tokens; listener_tokens = p.listener_tokens; retries = p.retries; files = p.files }

-- what only grows after what goes on
pub grows_through : {T L : Type 0} → {a b c : SocketSet T L} → GoesOn a b → Grows b c → Grows a c
grows_through p q = record {
  each = λ count. let x = p.counts count in let y = q.each count in omega (arith, x, y);
  links = λ link placed. q.links link (p.links link placed);
  listeners = λ listener placed. q.listeners listener (p.listeners listener placed);
  link_places = λ number below queued. q.link_places number below (p.link_places number below queued);
  listener_places = λ place below queued. q.listener_places place below (p.listener_places place below queued);
  link_tokens = λ number own. q.link_tokens number (p.link_tokens number own);
  listener_tokens = λ place own. q.listener_tokens place (p.listener_tokens place own);
  files = λ place path below at. p.files place path below (q.files place path (omega (arith, below, p.number)) at);
  retries = λ number tried. q.retries number (p.retries number tried);
}

-- what goes on after what only grows
pub grows_on : {T L : Type 0} → {a b c : SocketSet T L} → vec_len a.listeners ≤ vec_len b.listeners → Grows a b → GoesOn b c → Grows a c
grows_on number p q = record {
  each = λ count. let x = p.each count in let y = q.counts count in omega (arith, x, y);
  links = λ link placed. q.links link (p.links link placed);
  listeners = λ listener placed. q.listeners listener (p.listeners listener placed);
  link_places = λ number below queued. q.link_places number below (p.link_places number below queued);
  listener_places = λ place below queued. q.listener_places place below (p.listener_places place below queued);
  link_tokens = λ number own. q.link_tokens number (p.link_tokens number own);
  listener_tokens = λ place own. q.listener_tokens place (p.listener_tokens place own);
  files = λ place path below at. p.files place path below (q.files place path (omega (arith, below, number)) at);
  retries = λ number tried. q.retries number (p.retries number tried);
}

pub keeps_wishes : {T L : Type 0} → {a b : SocketSet T L} → GoesOn a b → KeepsWishesIn a b
keeps_wishes p = record { each = p.wishes }

pub keeps_through : {T L : Type 0} → {a b c : SocketSet T L} → GoesOn a b → KeepsWishesIn b c → KeepsWishesIn a c
keeps_through p q = record { each = λ link. q.each link ∙ p.wishes link }

-- an accept after what keeps all wishes
pub accept_through : {T L : Type 0} → {a b : SocketSet T L} (c : SocketSet T L) (answer : Accepted) → GoesOn a b → AfterAcceptIn answer b c → AfterAcceptIn answer a c
accept_through c (New session) p q = record { each = λ other differs. q.each other differs ∙ p.wishes other }
accept_through c NotReady p q = keeps_through p q
accept_through c Refused p q = keeps_through p q
accept_through c Memory p q = keeps_through p q

-- what is wished after what keeps all wishes was wished before
pub wished_before : {T L : Type 0} → (a b c : SocketSet T L) (ready : Ready) → GoesOn a b → IsWished b c ready → IsWished a c ready
wished_before a b c (Listener listener) p wished = wished
wished_before a b c (Link link) p wished = (subst HasWish (p.wishes link) wished.0, wished.1)
wished_before a b c Quiet p wished = wished
wished_before a b c Failed p wished = wished
