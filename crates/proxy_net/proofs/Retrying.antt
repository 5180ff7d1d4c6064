-- Each connect that is due is tried again, one after the other: the first of a queue goes to its end or leaves it, as
-- often as the queue was long.
use Rattle.std.proofs.Common.{ℕ, suc, zero, ◌≡◌, ◌+◌, ◌<◌, ◌⊎◌, inl, inr, nat_eq, nat_le, nat_lt, Bool, true, false, not, ◌||◌, Option, Some, None, List, [], ◌∷◌, ◌++◌, length, drop, take, slice_get, unwrap_or, Vec, Global, refl, ap, sym, subst, ◌∙◌, append_assoc, arith}
use Rattle.std.specs.BTreeMap as tree
use Rattle.std.specs.List.{list_any}
use Rattle.std.specs.Option.{option_map}
use Rattle.std.specs.Ordering.{nat_cmp}
use Rattle.std.specs.Time.{instant_nanos}
use Rattle.std.specs.declared.time.Instant.{Instant}
use Rattle.std.proofs.lemmas.Bool.Decides.{nat_tests}
use Rattle.proxy_net.specs.Connecting.{is_pending, due_of}
use Rattle.proxy_net.specs.Delays.{is_accept_due, is_overdue, is_time}
use Rattle.proxy_net.specs.Registering.{listeners_from}
use Rattle.proxy_net.specs.Sockets.{IsTried, KeepsAccepts, KeepsEarly, KeepsStalls, KeepsUnreported, is_accept_due_at, due_at, due_in, is_overdue_at, is_pending_at, is_retried}
use Rattle.proxy_net.specs.declared.link_sockets.Connection.{Connection}
use Rattle.proxy_net.specs.declared.link_sockets.Connection.TheVariants.{Open, Pending, Failed}
use Rattle.proxy_net.specs.declared.link_sockets.LinkSocket.{LinkSocket}
use Rattle.proxy_net.specs.declared.listeners.ListenerSocket.{ListenerSocket}
use Rattle.proxy_net.specs.declared.sockets.SocketSet.{SocketSet}

-- the first of a queue, after this number of its first ones
pub first_left : (items behind : List ℕ) (tries number : ℕ) → slice_get items tries ≡ Some number → slice_get (drop tries items ++ behind) 0 ≡ Some number
first_left [] behind tries number at = cc
first_left (item ∷ items) behind zero number at = at
first_left (item ∷ items) behind (suc tries) number at = first_left items behind tries number at

next_left : (items behind : List ℕ) (tries : ℕ) → tries < length items → drop 1 (drop tries items ++ behind) ≡ drop (suc tries) items ++ behind
next_left [] behind tries inside = absurd (omega (arith, inside))
next_left (item ∷ items) behind zero inside = refl
next_left (item ∷ items) behind (suc tries) inside = next_left items behind tries (omega (arith, inside))

-- one more of its first ones goes to the end, or leaves
pub one_turned : (items behind queue turned : List ℕ) (tries : ℕ) → tries < length items → queue ≡ drop tries items ++ behind
    → (turned ≡ drop 1 queue ++ take 1 queue) ⊎ (turned ≡ drop 1 queue) → (more : List ℕ) × (turned ≡ drop (tries + 1) items ++ more)
one_turned items behind queue turned tries inside are either =
    let next : suc tries ≡ tries + 1 = omega arith in
    let left : drop 1 queue ≡ drop (tries + 1) items ++ behind = ap (drop 1) are ∙ next_left items behind tries inside ∙ ap (λ n. drop n items ++ behind) next in
    elim either [
      | inl rotated ↦ (behind ++ take 1 queue, rotated ∙ ap (λ (xs : List ℕ). xs ++ take 1 queue) left ∙ append_assoc (drop (tries + 1) items) behind (take 1 queue))
      | inr gone ↦ (behind, gone ∙ left)
    ]

-- what isn't so of the first ones, and of the next one now, isn't so of one more
pub one_more_tried_now : (P Q : ℕ → Bool) (items : List ℕ) (tries : ℕ) → ((place number : ℕ) → place < tries → slice_get items place ≡ Some number → P number ≡ false) → ((number : ℕ) → P number ≡ false → Q number ≡ false)
    → ((number : ℕ) → slice_get items tries ≡ Some number → Q number ≡ false) → (place number : ℕ) → place < tries + 1 → slice_get items place ≡ Some number → Q number ≡ false
one_more_tried_now P Q items tries before kept now place number below at = by (nat_lt place tries) refl
  where
    by : (less : Bool) → nat_lt place tries ≡ less → Q number ≡ false
    by true e = kept number (before place number (grind (arith, nat_tests, e)) at)
    by false e = let same : tries ≡ place = grind (arith, nat_tests, e, below) in now number (ap (slice_get items) same ∙ at)

first_or_later : (number item : ℕ) (later : Bool) → nat_eq number item || later ≡ true → (item ≡ number) ⊎ (later ≡ true)
first_or_later number item later among = by (nat_eq number item) refl among
  where
    by : (same : Bool) → nat_eq number item ≡ same → same || later ≡ true → (item ≡ number) ⊎ (later ≡ true)
    by true e f = inl (grind (arith, nat_tests, e))
    by false e f = inr f

-- what isn't so of the number at any place isn't so of any number that is there
pub none_among : (P : ℕ → Bool) (items : List ℕ) → ((place number : ℕ) → place < length items → slice_get items place ≡ Some number → P number ≡ false) → (number : ℕ) → list_any (nat_eq number) items ≡ true → P number ≡ false
none_among P [] each number among = cc
none_among P (item ∷ items) each number among = elim (first_or_later number item (list_any (nat_eq number) items) among) [
  | inl same ↦ each zero number (omega arith) (ap some_number same)
  | inr later ↦ none_among P items (λ place other below at. each (suc place) other (omega (arith, below)) at) number later
]
  where
    some_number : ℕ → Option ℕ
    some_number n = Some n

-- only a link that isn't connected yet is tried again
no_try : {T : Type 0} → (connection : Connection T) → is_pending connection ≡ false → due_of connection ≡ None
no_try (Open stream) closed = refl
no_try (Pending retry) closed = absurd (let no : true ≡ false = closed in cc)
no_try Failed closed = refl

pub never_overdue : {T : Type 0} → (connection : Connection T) (now : Option Instant) → is_pending connection ≡ false → is_overdue (due_of connection) now ≡ false
never_overdue connection now closed = ap (λ (due : Option Instant). is_overdue due now) (no_try connection closed)

module _ {T L : Type 0} (sockets : SocketSet T L) where
  pub none_due : (number : ℕ) → is_pending_at sockets number ≡ false → due_at sockets number ≡ None
  none_due number closed = by (tree.get nat_cmp sockets.links number) closed
    where
      by : (socket : Option (LinkSocket T)) → unwrap_or (option_map (λ (s : LinkSocket _). is_pending s.connection) socket) false ≡ false → due_in socket ≡ None
      by None e = refl
      by (Some socket) e = no_try socket.connection e

  -- if there is nothing that is tried again, nothing is due
  pub none_to_try : sockets.pending.items ≡ [] → (number : ℕ) → is_retried sockets number ≡ true → due_at sockets number ≡ None
  none_to_try none number retried = none_due number (by (is_pending_at sockets number) (ap (λ (xs : List ℕ). not (is_pending_at sockets number) || list_any (nat_eq number) xs) (sym none) ∙ retried))
    where
      by : (p : Bool) → not p || false ≡ true → p ≡ false
      by true e = absurd (let no : false ≡ true = e in cc)
      by false e = refl

-- if the connects are tried that are tried again, none is overdue
module _ {T L : Type 0} (a b : SocketSet T L) (now : Option Instant) where
  pub none_left_overdue : ((number : ℕ) → is_pending_at b number ≡ true → is_pending_at a number ≡ true) → ((number : ℕ) → list_any (nat_eq number) a.pending.items ≡ true → is_overdue_at b now number ≡ false)
      → (number : ℕ) → is_retried a number ≡ true → is_overdue_at b now number ≡ false
  none_left_overdue pending tried number retried = by (is_pending_at b number) refl
    where
      among : (p listed : Bool) → p ≡ true → not p || listed ≡ true → listed ≡ true
      among true listed e f = f
      among false listed e f = absurd (let no : false ≡ true = e in cc)

      by : (p : Bool) → is_pending_at b number ≡ p → is_overdue_at b now number ≡ false
      by true e = tried number (among (is_pending_at a number) (list_any (nat_eq number) a.pending.items) (pending number e) retried)
      by false e = ap (λ (due : Option Instant). is_overdue due now) (none_due b number e)

-- a try of one link leaves the others as they were
module _ {T L : Type 0} (a b : SocketSet T L) (now : Option Instant) (number : ℕ) (others : (other : ℕ) → nat_eq number other ≡ false → due_at b other ≡ due_at a other) where
  pub others_not_overdue : is_overdue_at b now number ≡ false → (other : ℕ) → is_overdue_at a now other ≡ false → is_overdue_at b now other ≡ false
  others_not_overdue tried other before = by (nat_eq number other) refl
    where
      by : (same : Bool) → nat_eq number other ≡ same → is_overdue_at b now other ≡ false
      by true e = let same : number ≡ other = grind (arith, nat_tests, e) in subst (λ n. is_overdue_at b now n ≡ false) same tried
      by false e = ap (λ (due : Option Instant). is_overdue due now) (others other e) ∙ before

  -- .. and that link too, if it isn't due yet
  pub others_early : ((time due : Instant) → now ≡ Some time → due_at a number ≡ Some due → instant_nanos time < instant_nanos due → due_at b number ≡ Some due)
      → (other : ℕ) (time due : Instant) → now ≡ Some time → due_at a other ≡ Some due → instant_nanos time < instant_nanos due → due_at b other ≡ Some due
  others_early own other time due is at less = by (nat_eq number other) refl
    where
      by : (same : Bool) → nat_eq number other ≡ same → due_at b other ≡ Some due
      by true e = let same : number ≡ other = grind (arith, nat_tests, e) in subst (λ n. due_at b n ≡ Some due) same (own time due is (ap (due_at a) same ∙ at) less)
      by false e = others other e ∙ at

-- what a try at a time that the clock showed leaves as it is
pub early_kept : {T L : Type 0} (Shows : Option Instant → Type 0) (a b : SocketSet T L) (now : Option Instant) → Shows now
    → ((number : ℕ) (time due : Instant) → now ≡ Some time → due_at a number ≡ Some due → instant_nanos time < instant_nanos due → due_at b number ≡ Some due) → KeepsEarly Shows a b
early_kept Shows a b now shown early = record { each = λ number due at. by number due at now refl }
  where
    when : (number : ℕ) (due time : Instant) → due_at a number ≡ Some due → now ≡ Some time → (is_due : Bool) → nat_le (instant_nanos due) (instant_nanos time) ≡ is_due
        → (due_at b number ≡ Some due) ⊎ ((time : Option Instant) × Shows time × (is_time (Some due) time ≡ true))
    when number due time at is true e = inr (now, shown, ap (is_time (Some due)) is ∙ e)
    when number due time at is false e = inl (early number time due is at (grind (arith, nat_tests, e)))

    by : (number : ℕ) (due : Instant) → due_at a number ≡ Some due → (clock : Option Instant) → now ≡ clock → (due_at b number ≡ Some due) ⊎ ((time : Option Instant) × Shows time × (is_time (Some due) time ≡ true))
    by number due at None is = inr (now, shown, ap (is_time (Some due)) is)
    by number due at (Some time) is = when number due time at is (nat_le (instant_nanos due) (instant_nanos time)) refl

-- .. and what leaves all connects as they are
pub early_same : {T L : Type 0} {Shows : Option Instant → Type 0} (a b : SocketSet T L) → ((number : ℕ) → due_at b number ≡ due_at a number) → KeepsEarly Shows a b
early_same a b same = record { each = λ number due at. inl (same number ∙ at) }

pub early_through : {T L : Type 0} {Shows : Option Instant → Type 0} {a b c : SocketSet T L} → KeepsEarly Shows a b → KeepsEarly Shows b c → KeepsEarly Shows a c
early_through p q = record {
  each = λ number due at. elim (p.each number due at) [
    | inl kept ↦ q.each number due kept
    | inr tried ↦ inr tried
  ];
}

-- ---- accepts that are tried again

pub stalls_through : {T L : Type 0} {a b c : SocketSet T L} → KeepsStalls a b → KeepsStalls b c → KeepsStalls a c
stalls_through p q = record { stalled = λ place. q.stalled place ∙ p.stalled place; due = λ now place. q.due now place ∙ p.due now place }

pub unreported_through : {T L : Type 0} {reported : ℕ → Bool} {a b c : SocketSet T L} → KeepsUnreported reported a b → KeepsUnreported reported b c → KeepsUnreported reported a c
unreported_through p q = record { each = λ place e. q.each place e ∙ p.each place e }

-- less was reported
pub unreported_weaker : {T L : Type 0} {less more : ℕ → Bool} {a b : SocketSet T L} → ((number : ℕ) → less number ≡ true → more number ≡ true) → KeepsUnreported less a b → KeepsUnreported more a b
unreported_weaker {less} {more} {a} {b} f p = record { each = λ place e. p.each place (by (listeners_from + place) e (less (listeners_from + place)) refl) }
  where
    by : (number : ℕ) → more number ≡ false → (is : Bool) → less number ≡ is → less number ≡ false
    by number e true g = absurd (let no : true ≡ false = sym (f number g) ∙ e in cc)
    by number e false g = g

-- when a listener is tried again, if it stays as it is
pub due_same : {L : Type 0} (now : Option Instant) {one other : Option (ListenerSocket L)} → one ≡ other → unwrap_or (option_map (is_accept_due now) one) false ≡ unwrap_or (option_map (is_accept_due now) other) false
due_same now same = ap (λ (o : Option (ListenerSocket _)). unwrap_or (option_map (is_accept_due now) o) false) same

pub stalls_same : {T L : Type 0} (a b : SocketSet T L) → b.listeners ≡ a.listeners → KeepsStalls a b
stalls_same a b same = record {
  stalled = λ place. ap (λ (v : Vec (ListenerSocket _) Global). unwrap_or (option_map (λ (s : ListenerSocket _). s.stalled) (slice_get v.items place)) false) same;
  due = λ now place. due_same now (ap (λ (v : Vec (ListenerSocket _) Global). slice_get v.items place) same);
}

-- reports are noted, and then accepts are tried again
pub accepts_after : {T L : Type 0} {Shows : Option Instant → Type 0} {reported : ℕ → Bool} {a b c : SocketSet T L} → KeepsUnreported reported a b → KeepsAccepts Shows (λ _. false) b c → KeepsAccepts Shows reported a c
accepts_after {Shows} {reported} {a} {b} {c} p q = record { each = λ place. by place (reported (listeners_from + place)) refl }
  where
    by : (place : ℕ) (is : Bool) → reported (listeners_from + place) ≡ is
        → ((now : Option Instant) → is_accept_due_at c now place ≡ is_accept_due_at a now place) ⊎ ((reported (listeners_from + place) ≡ true) ⊎ ((now : Option Instant) × Shows now × (is_accept_due_at a now place ≡ true)))
    by place true e = inr (inl e)
    by place false e = elim (q.each place) [
      | inl due ↦ inl (λ now. due now ∙ due_same now (p.each place e))
      | inr other ↦ elim other [
        | inl never ↦ absurd (let none : false ≡ true = never in cc)
        | inr (now, shown, due) ↦ inr (inr (now, shown, sym (due_same now (p.each place e)) ∙ due))
      ]
    ]

-- .. after calls that keep the stalls
pub accepts_before : {T L : Type 0} {Shows : Option Instant → Type 0} {reported : ℕ → Bool} {a b c : SocketSet T L} → KeepsStalls a b → KeepsAccepts Shows reported b c → KeepsAccepts Shows reported a c
accepts_before p q = record {
  each = λ place. elim (q.each place) [
    | inl due ↦ inl (λ now. due now ∙ p.due now place)
    | inr other ↦ elim other [
      | inl reported ↦ inr (inl reported)
      | inr (now, shown, due) ↦ inr (inr (now, shown, sym (p.due now place) ∙ due))
    ]
  ];
}

-- accepts are tried at a time that the clock showed
pub accepts_tried : {T L : Type 0} (Shows : Option Instant → Type 0) (a b : SocketSet T L) (now : Option Instant) → Shows now
    → ((place : ℕ) → is_accept_due_at a now place ≡ false → slice_get b.listeners.items place ≡ slice_get a.listeners.items place) → KeepsAccepts Shows (λ _. false) a b
accepts_tried Shows a b now shown others = record { each = λ place. by place (is_accept_due_at a now place) refl }
  where
    by : (place : ℕ) (is : Bool) → is_accept_due_at a now place ≡ is
        → ((time : Option Instant) → is_accept_due_at b time place ≡ is_accept_due_at a time place) ⊎ ((false ≡ true) ⊎ ((time : Option Instant) × Shows time × (is_accept_due_at a time place ≡ true)))
    by place true e = inr (inr (now, shown, e))
    by place false e = inl (λ time. due_same time (others place e))

-- what was tried stays so while all is tried again when it was to be
pub tried_kept : {T L : Type 0} {Shows : Option Instant → Type 0} (a b : SocketSet T L) → ((number : ℕ) → due_at b number ≡ due_at a number) → KeepsStalls a b → IsTried Shows a → IsTried Shows b
tried_kept a b dues stalls tried = elim tried [
  | inl none ↦ inl (record { connects = λ number. dues number ∙ none.connects number; accepts = λ place. stalls.stalled place ∙ none.accepts place })
  | inr (now, shown, by) ↦ inr (
    now,
    shown,
    record {
      connects = λ number. ap (λ (due : Option Instant). is_overdue due now) (dues number) ∙ by.connects number;
      accepts = λ place. stalls.due now place ∙ by.accepts place;
    },
  )
]
