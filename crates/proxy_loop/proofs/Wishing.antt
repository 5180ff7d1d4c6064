-- The wishes of links stay as they are to be, turn by turn.
use Rattle.std.proofs.Common.{ℕ, nat_eq, nat_lt, ◌≡◌, Bool, true, false, ◌||◌, cond, Option, Some, None, Result, Ok, Err, if◌then◌else◌, refl, ap, ◌∙◌, sym, subst, slice_get, string_bytes, List}
use Rattle.std.proofs.lemmas.Bool.Decides.{nat_tests}
use Rattle.std.proofs.Common.{arith}
use Rattle.std.specs.Option.{option_map}
use Rattle.link_traits.specs.Views.{NetView, KeepsWishes, KeepsOthers, SinkView}
use Rattle.link_traits.specs.Answers.{client_link, bus_link, AfterAccept}
use Rattle.link_traits.specs.declared.links.Accepted.{Accepted}
use Rattle.link_traits.specs.declared.links.Accepted.TheVariants.{New, NotReady as AcceptNotReady, Failed as AcceptFailed, Memory as AcceptMemory}
use Rattle.link_traits.specs.declared.links.Link.{Link}
use Rattle.link_traits.specs.declared.links.Ready.{Ready}
use Rattle.link_traits.specs.declared.links.Ready.TheVariants.{Listener, Link as ReadyLink, Quiet, Failed as ReadyFailed}
use Rattle.link_traits.specs.declared.links.Side.TheVariants.{Client, Bus}
use Rattle.link_traits.specs.declared.links.Wishes.{Wishes}
use Rattle.policy_args.specs.declared.line.Block.{Block}
use Rattle.proxy_loop.specs.declared.serving.Running.{Running}
use Rattle.proxy_loop.specs.declared.turns.Turn.{Turn}
use Rattle.proxy_loop.specs.declared.turns.ServerEnd.{ServerEnd}
use Rattle.proxy_loop.specs.declared.turns.ServerEnd.TheVariants.{Listen, Wait, Memory}
use Rattle.proxy_loop.specs.Works.{wishes_of}
use Rattle.proxy_loop.specs.Runs.{KeepsSessions, is_over}
use Rattle.proxy_loop.specs.Tables.{At, Table, Sets, unless_over, SoundTable, Wished, AllWished}
use Rattle.proxy_loop.specs.Turns.{Still, ServedDid, LinkDid, Brought, ListenerDid, ReadyDid, AfterWait, TurnDid}

-- where the wishes of a session's links stay
stays_wished : (n : ℕ) (running : Running) (before after : NetView) → after.wishes (client_link n) ≡ before.wishes (client_link n) → after.wishes (bus_link n) ≡ before.wishes (bus_link n) →
    Wished n running before → Wished n running after
stays_wished n running before after client bus w = record { client = λ e. client ∙ w.client e; bus = λ e. bus ∙ w.bus e }

all_keep : (at : At) (before after : NetView) → KeepsWishes before after → AllWished at before → AllWished at after
all_keep at before after keeps w = record {
  each = λ n r e. stays_wished n r before after (keeps.each (client_link n)) (keeps.each (bus_link n)) (w.each n r e);
}

same_at : (old new : At) (net : NetView) → ((k : ℕ) → new k ≡ old k) → AllWished old net → AllWished new net
same_at old new net same w = record { each = λ n r e. w.each n r (sym (same n) ∙ e) }

still_wished : (old new : Table) (before after : NetView) (first last : SinkView) → Still old new before after first last → AllWished old.at before → AllWished new.at after
still_wished old new before after first last d w = same_at old.at new.at after d.same.at (subst (λ (v : NetView). AllWished old.at v) (sym d.net) w)

-- one session has changed, and its wishes are as they are to be
one_wished : (m : ℕ) (now : Running) (old new : At) (before after : NetView) → Sets m (unless_over now) old new → KeepsSessions m before after →
    Wished m now after → AllWished old before → AllWished new after
one_wished m now old new before after sets others here w = record { each = λ n r e. by n r (nat_eq m n) refl (sym (sets.each n) ∙ e) }
  where
    held : (b : Bool) (r : Running) → (if b then None else Some now) ≡ Some r → now ≡ r
    held true r e = cc
    held false r e = cc

    by : (n : ℕ) (r : Running) (b : Bool) → nat_eq m n ≡ b → cond b (unless_over now) (old n) ≡ Some r → Wished n r after
    by n r true t e =
        let same : m ≡ n = grind (arith, nat_tests, t) in
        subst (λ (k : ℕ). Wished k r after) same (subst (λ (x : Running). Wished m x after) (held (is_over now) r e) here)
    by n r false t e = stays_wished n r before after (others.each (client_link n) t) (others.each (bus_link n) t) (w.each n r e)

not_shut : (shut more : Bool) (after : Bool) → after ≡ (shut || more) → after ≡ false → shut ≡ false
not_shut false more after e f = refl
not_shut true more after e f = let t : after ≡ true = e in cc

served_wished : (blocks : List Block) (link : Link) (running : Running) (old new : Table) (before after : NetView) (first last : SinkView) →
    old.at link.session ≡ Some running → running.number ≡ link.session → ServedDid blocks link running old new before after first last → AllWished old.at before → AllWished new.at after
served_wished blocks link running old new before after first last at number d w =
    let was : Wished link.session running before = w.each link.session running at in
    let own : Wished running.number running before = subst (λ (k : ℕ). Wished k running before) (sym number) was in
    let now : Wished running.number d.now after = record {
      client = λ e. d.served.client_wishes e ∙ ap (λ (o : Option Wishes). option_map (λ (_ : Wishes). wishes_of Client d.now.session) o) (own.client (not_shut running.client.shut _ d.now.client.shut d.served.client_shut e));
      bus = λ e. d.served.bus_wishes e ∙ ap (λ (o : Option Wishes). option_map (λ (_ : Wishes). wishes_of Bus d.now.session) o) (own.bus (not_shut running.bus.shut _ d.now.bus.shut d.served.bus_shut e));
    } in
    one_wished link.session d.now old.at new.at before after d.sets (subst (λ (k : ℕ). KeepsSessions k before after) number d.served.others)
    (subst (λ (k : ℕ). Wished k d.now after) number now) w

-- an accept leaves the wishes of other sessions
accept_others : (n : ℕ) (before after : NetView) → KeepsOthers (client_link n) before after → KeepsSessions n before after
accept_others n before after k = record { each = λ link e. k.each link (rw e refl) }

then_others : (n : ℕ) (a b c : NetView) → KeepsSessions n a b → KeepsSessions n b c → KeepsSessions n a c
then_others n a b c x y = record { each = λ link e. y.each link e ∙ x.each link e }

brought_wished : (blocks : List Block) (listener : ℕ) (address : List ℕ) (old new : Table) (v0 v1 v2 : NetView) (answer : Accepted) → AfterAccept answer v0 v1 →
    Brought blocks listener address answer old new v1 v2 → AllWished old.at v0 → AllWished new.at v2
brought_wished blocks listener address old new v0 v1 v2 (New n) kept d w =
    one_wished n d.running old.at new.at v0 v2 d.sets (then_others n v0 v1 v2 (accept_others n v0 v1 kept) d.others) (record { client = d.client_wishes; bus = d.bus_wishes }) w
brought_wished blocks listener address old new v0 v1 v2 AcceptNotReady kept d w = same_at old.at new.at v2 d.0.at (subst (λ (v : NetView). AllWished old.at v) (sym d.1) (all_keep old.at v0 v1 kept w))
brought_wished blocks listener address old new v0 v1 v2 AcceptFailed kept d w = same_at old.at new.at v2 d.0.at (subst (λ (v : NetView). AllWished old.at v) (sym d.1) (all_keep old.at v0 v1 kept w))
brought_wished blocks listener address old new v0 v1 v2 AcceptMemory kept d w = same_at old.at new.at v2 d.0.at (subst (λ (v : NetView). AllWished old.at v) (sym d.1) (all_keep old.at v0 v1 kept w))

module _ (blocks : List Block) (old new : Table) (before after : NetView) (first last : SinkView) (sound : SoundTable blocks old.at) (w : AllWished old.at before) where
  listener_wished : (room : Bool) (listener : ℕ) (block : Option Block) → ListenerDid room blocks listener block old new before after first last → AllWished new.at after
  listener_wished true listener (Some block) d = brought_wished blocks listener (string_bytes block.address) old new before d.0.between after d.0.answer d.0.wishes d.0.brings w
  listener_wished true listener None d = still_wished old new before after first last d w
  listener_wished false listener block d = still_wished old new before after first last d w

  link_wished : (link : Link) (o : Option Running) → old.at link.session ≡ o → LinkDid blocks link o old new before after first last → AllWished new.at after
  link_wished link None e d = still_wished old new before after first last d w
  link_wished link (Some running) e d = served_wished blocks link running old new before after first last e (sound.number link.session running e) d w

  ready_wished : (limit : ℕ) (ready : Ready) → ReadyDid blocks limit ready old new before after first last → AllWished new.at after
  ready_wished limit (Listener listener) d = listener_wished (nat_lt old.accepted limit) listener (slice_get blocks listener) d
  ready_wished limit (ReadyLink link) d = link_wished link (old.at link.session) refl d
  ready_wished limit Quiet d = still_wished old new before after first last d w
  ready_wished limit ReadyFailed d = still_wished old new before after first last d w

  after_wished : (limit : ℕ) (ready : Ready) (answer : Result Turn ServerEnd) → AfterWait blocks limit ready old new before after first last answer → AllWished new.at after
  after_wished limit ready (Err Memory) d = still_wished old new before after first last d.0 w
  after_wished limit ready (Err Wait) d = ready_wished limit ready d.0
  after_wished limit ready (Err (Listen k)) d = absurd d
  after_wished limit ready (Ok turn) d = ready_wished limit ready d.0

pub turn_wished : (blocks : List Block) (limit : ℕ) (old new : Table) (before after : NetView) (first last : SinkView) (answer : Result Turn ServerEnd) →
    SoundTable blocks old.at → TurnDid blocks limit old new before after first last answer → AllWished old.at before → AllWished new.at after
turn_wished blocks limit old new before after first last answer sound d w =
    after_wished blocks old new d.between after first last sound (all_keep old.at before d.between d.wishes w) limit d.ready answer d.does
