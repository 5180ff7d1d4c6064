-- The entry of each result fits into a record.
use Rattle.std.proofs.Common.{◌≡◌, ◌≤◌, ◌<◌, ◌+◌, ◌^◌, ℕ, Bool, true, ◌&&◌, nat_le, List, Some, Result, Ok, Err, refl, ap₂, length, take, arith}
use Rattle.std.proofs.lemmas.Bool.Decides.{nat_tests}
use Rattle.std.proofs.lemmas.List.{length-take}
use Rattle.link_traits.specs.Journals.{Journal, accepts}
use Rattle.link_traits.specs.Views.{NetView}
use Rattle.link_traits.specs.Answers.{listen_entry, accept_entry, connect_entry, read_entry, write_entry}
use Rattle.link_traits.specs.declared.links.Link.{Link}
use Rattle.link_traits.specs.declared.links.Accepted.{Accepted}
use Rattle.link_traits.specs.declared.links.Accepted.TheVariants as accepted
use Rattle.link_traits.specs.declared.links.Got.{Got}
use Rattle.link_traits.specs.declared.links.Got.TheVariants as got
use Rattle.link_traits.specs.declared.links.Took.{Took}
use Rattle.link_traits.specs.declared.links.Took.TheVariants as took
use Rattle.link_traits.specs.declared.links.NetFault.{NetFault}
use Rattle.link_traits.specs.declared.links.NetFault.TheVariants as net_fault
use Rattle.record_net.specs.declared.TheConstants.{READ_LIMIT}
use Rattle.record_net.specs.Fitting.{entry_fits, is_short}
use Rattle.record_net.proofs.Recordings.{FitsAfter}

short : (n : ℕ) → n < 2 ^ 32 → is_short n ≡ true
short n lt = grind (arith, nat_tests, lt)

pub listen_fits : (path : List ℕ) (answer : Result ℕ NetFault) → entry_fits (listen_entry path answer) ≡ true
listen_fits path (Ok listener) = refl
listen_fits path (Err net_fault.Failed) = refl
listen_fits path (Err net_fault.Memory) = refl

-- a session's number is one above the number of those that were accepted
pub accept_fits : (old : NetView) (listener : ℕ) (answer : Accepted) →
    ((session : ℕ) → answer ≡ accepted.New session → (before : Journal) → old.journal ≡ Some before → session ≡ accepts before + 1) →
    FitsAfter old (accept_entry listener answer)
accept_fits old listener (accepted.New session) numbered before told =
    let is : session ≡ accepts before + 1 = numbered session refl before told in
    let above : 0 < session = omega (arith, is) in
    grind (arith, nat_tests, above)
accept_fits old listener accepted.NotReady numbered before told = refl
accept_fits old listener accepted.Failed numbered before told = refl
accept_fits old listener accepted.Memory numbered before told = refl

pub connect_fits : (session : ℕ) (path : List ℕ) (answer : Result (Unit {0}) NetFault) → session < 2 ^ 32 → entry_fits (connect_entry session path answer) ≡ true
connect_fits session path (Ok done) lt = refl
connect_fits session path (Err net_fault.Failed) lt = short session lt
connect_fits session path (Err net_fault.Memory) lt = refl

length-take_most : (n : ℕ) (bytes : List ℕ) → length (take n bytes) ≤ n
length-take_most n bytes = omega (arith, length-take n bytes)

pub read_fits : (link : Link) (into : List ℕ) (answer : Got) → link.session < 2 ^ 32 → ((n : ℕ) → answer ≡ got.Bytes n → n ≤ READ_LIMIT) →
    entry_fits (read_entry link into answer) ≡ true
read_fits link into (got.Bytes n) lt limit =
    let le : length (take n into) ≤ READ_LIMIT = omega (arith, limit n refl, length-take_most n into) in
    let fits : nat_le (length (take n into)) READ_LIMIT ≡ true = grind (arith, nat_tests, le) in
    ap₂ (λ (x y : Bool). x && y) (short link.session lt) fits
read_fits link into got.Finished lt limit = short link.session lt
read_fits link into got.NotReady lt limit = refl
read_fits link into got.Failed lt limit = short link.session lt

pub write_fits : (link : Link) (piece : List ℕ) (answer : Took) → link.session < 2 ^ 32 → entry_fits (write_entry link piece answer) ≡ true
write_fits link piece (took.Bytes n) lt = refl
write_fits link piece took.NotReady lt = refl
write_fits link piece took.Failed lt = short link.session lt
