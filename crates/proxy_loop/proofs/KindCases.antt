-- The entries that a test on kinds lets through, case by case.
use Rattle.std.proofs.Common.{ℕ, nat_eq, ◌≡◌, Bool, true, false, ◌||◌, List, refl, subst, arith}
use Rattle.std.proofs.lemmas.Bool.{and_parts}
use Rattle.std.proofs.lemmas.Bool.Decides.{nat_tests}
use Rattle.link_traits.specs.Journals.{same_link, same_side}
use Rattle.link_traits.specs.Answers.{client_link, bus_link}
use Rattle.link_traits.specs.Entries.{Entry, listened as Listened, ready as Ready, accepted as Accepted, connected as Connected, read as Read, finished as Finished, wrote as Wrote, not_ready as NotReady, failed as Failed, refused as Refused, shut as Shut}
use Rattle.link_traits.specs.declared.links.Link.{Link}
use Rattle.link_traits.specs.declared.links.Call.{Call}
use Rattle.link_traits.specs.declared.links.Call.TheVariants.{Listen as ListenCall, Accept as AcceptCall, Connect as ConnectCall, Read as ReadCall, Write as WriteCall}
use Rattle.proxy_loop.specs.Kinds.{is_write, write_call, is_read, read_call, writes_of}

-- an answer of a write to a link
pub write_cases : (P : Entry → Type 0) (link : Link) (entry : Entry) → is_write link entry ≡ true → ((at : Link) (bytes : List ℕ) → same_link link at ≡ true → P (Wrote at bytes))
    → ((at : Link) → same_link link at ≡ true → P (NotReady (WriteCall at))) → ((at : Link) → same_link link at ≡ true → P (Failed (WriteCall at))) → P entry
write_cases P link (Wrote at bytes) h wrote none failed = wrote at bytes h
write_cases P link (NotReady call) h wrote none failed = by call h
  where
    by : (call : Call) → write_call link call ≡ true → P (NotReady call)
    by (WriteCall at) h = none at h
    by (ReadCall at) h = absurd cc
    by (ConnectCall session) h = absurd cc
    by (AcceptCall listener) h = absurd cc
    by ListenCall h = absurd cc
write_cases P link (Failed call) h wrote none failed = by call h
  where
    by : (call : Call) → write_call link call ≡ true → P (Failed call)
    by (WriteCall at) h = failed at h
    by (ReadCall at) h = absurd cc
    by (ConnectCall session) h = absurd cc
    by (AcceptCall listener) h = absurd cc
    by ListenCall h = absurd cc
write_cases P link (Read at bytes) h wrote none failed = absurd cc
write_cases P link (Finished at) h wrote none failed = absurd cc
write_cases P link (Refused call) h wrote none failed = absurd cc
write_cases P link (Listened listener path) h wrote none failed = absurd cc
write_cases P link (Ready answer) h wrote none failed = absurd cc
write_cases P link (Accepted listener session) h wrote none failed = absurd cc
write_cases P link (Connected session path) h wrote none failed = absurd cc
write_cases P link (Shut at) h wrote none failed = absurd cc

-- an answer of a read of a link
pub read_cases : (P : Entry → Type 0) (link : Link) (entry : Entry) → is_read link entry ≡ true → ((at : Link) (bytes : List ℕ) → same_link link at ≡ true → P (Read at bytes)) → ((at : Link) → same_link link at ≡ true → P (Finished at))
    → ((at : Link) → same_link link at ≡ true → P (NotReady (ReadCall at))) → ((at : Link) → same_link link at ≡ true → P (Failed (ReadCall at))) → P entry
read_cases P link (Read at bytes) h read finished none failed = read at bytes h
read_cases P link (Finished at) h read finished none failed = finished at h
read_cases P link (NotReady call) h read finished none failed = by call h
  where
    by : (call : Call) → read_call link call ≡ true → P (NotReady call)
    by (ReadCall at) h = none at h
    by (WriteCall at) h = absurd cc
    by (ConnectCall session) h = absurd cc
    by (AcceptCall listener) h = absurd cc
    by ListenCall h = absurd cc
read_cases P link (Failed call) h read finished none failed = by call h
  where
    by : (call : Call) → read_call link call ≡ true → P (Failed call)
    by (ReadCall at) h = failed at h
    by (WriteCall at) h = absurd cc
    by (ConnectCall session) h = absurd cc
    by (AcceptCall listener) h = absurd cc
    by ListenCall h = absurd cc
read_cases P link (Wrote at bytes) h read finished none failed = absurd cc
read_cases P link (Refused call) h read finished none failed = absurd cc
read_cases P link (Listened listener path) h read finished none failed = absurd cc
read_cases P link (Ready answer) h read finished none failed = absurd cc
read_cases P link (Accepted listener session) h read finished none failed = absurd cc
read_cases P link (Connected session path) h read finished none failed = absurd cc
read_cases P link (Shut at) h read finished none failed = absurd cc

pub same_link_number : (link at : Link) → same_link link at ≡ true → nat_eq at.session link.session ≡ true
same_link_number link at h = let t : nat_eq link.session at.session ≡ true = (and_parts (nat_eq link.session at.session) (same_side link.side at.side) h).0 in grind (arith, nat_tests, t)

-- an answer of a write to either link of a session
pub session_write_cases : (P : Entry → Type 0) (n : ℕ) (entry : Entry) → writes_of n entry ≡ true → ((at : Link) (bytes : List ℕ) → nat_eq at.session n ≡ true → P (Wrote at bytes))
    → ((at : Link) → nat_eq at.session n ≡ true → P (NotReady (WriteCall at))) → ((at : Link) → nat_eq at.session n ≡ true → P (Failed (WriteCall at))) → P entry
session_write_cases P n entry h wrote none failed = by (is_write (client_link n) entry) refl h
  where
    of : (link : Link) → link.session ≡ n → is_write link entry ≡ true → P entry
    of link same is =
        let number : (at : Link) → same_link link at ≡ true → nat_eq at.session n ≡ true = λ at s. subst (λ (k : ℕ). nat_eq at.session k ≡ true) same (same_link_number link at s) in
        write_cases P link entry is (λ at bytes s. wrote at bytes (number at s)) (λ at s. none at (number at s)) (λ at s. failed at (number at s))

    by : (b : Bool) → is_write (client_link n) entry ≡ b → b || is_write (bus_link n) entry ≡ true → P entry
    by true is h = of (client_link n) refl is
    by false is h = of (bus_link n) refl h
