use Rattle.std.proofs.Common.{ℕ, List, sym, subst}
use Rattle.dbus_header.specs.KnownHeaders.{AreRead, AreWithin, fields_bytes, found_at}
use Rattle.dbus_header.proofs.KnownHeaders.{found-read}
use Rattle.dbus_header.proofs.decoding.find_places.Goals as goal

pub returns-in-Some-clause-refusal : goal.returns-in-Some-clause-refusal
returns-in-Some-clause-refusal c =
    let t = c.args.bytes.now in
    let n = c.args.fields_len in
    let read : AreRead c.args.order n (fields_bytes n t) (found_at c.args.order (fields_bytes n t) c.in-Some.found.now) =
    subst (λ (b : List ℕ). AreRead c.args.order n b (found_at c.args.order b c.in-Some.found.now)) c.fields_bytes.ensures.bytes c.in-Some.ensures.read in
    (found-read t c.args.order n c.requires.order c.requires.len _ read).0

pub returns-in-Some-clause-placed : goal.returns-in-Some-clause-placed
returns-in-Some-clause-placed c =
    let t = c.args.bytes.now in
    let n = c.args.fields_len in
    let read : AreRead c.args.order n (fields_bytes n t) (found_at c.args.order (fields_bytes n t) c.in-Some.found.now) =
    subst (λ (b : List ℕ). AreRead c.args.order n b (found_at c.args.order b c.in-Some.found.now)) c.fields_bytes.ensures.bytes c.in-Some.ensures.read in
    let found = found-read t c.args.order n c.requires.order c.requires.len _ read in
    record {
      sound = sym found.0;
      within = subst (λ (b : List ℕ). AreWithin b c.in-Some.found.now) c.fields_bytes.ensures.bytes c.in-Some.ensures.within;
      found = found.1;
    }
