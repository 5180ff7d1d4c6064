-- A file that is told was read, or is above its limit; and what it means for a run that it stops.
use Rattle.std.proofs.Common.{◌≡◌, ◌<◌, ℕ, List, [], Option, Some, None, Result, Ok, Err, IfSome, refl, ap, sym, ◌∙◌, length, cond, nat_lt, arith, subst, Bool, true, false, bytes_eq}
use Rattle.std.proofs.lemmas.Bool.Decides.{nat_tests}
use Rattle.byte_lists.proofs.Bytes.{bytes_eq-refl}
use Rattle.link_traits.specs.Told.{Given}
use Rattle.policy_args.specs.declared.BadWord.{BadWord}
use Rattle.policy_args.specs.Words.{PolicyOptions}
use Rattle.recording.specs.declared.BadRecording.{BadRecording}
use Rattle.recording.specs.declared.TheConstants.{RECORDING_LIMIT}
use Rattle.recording.specs.Recording.{Recording, recording_of}
use Rattle.proxy_main.specs.declared.Refusal.{Refusal}
use Rattle.proxy_main.specs.declared.Refusal.TheVariants.{Usage, LineWord, ArgsTooLong, PolicyWord, PolicyTooLong, Recording as BadFile, NoSuchMessage, NoSuchSession, TooManyEntries, Message, Text}
use Rattle.proxy_main.specs.declared.TheConstants.{POLICY_LIMIT}
use Rattle.proxy_main.specs.declared.Stop.{Stop}
use Rattle.proxy_main.specs.declared.Stop.TheVariants as stop
use Rattle.proxy_main.specs.Words.{Command, Twin}
use Rattle.proxy_main.specs.Answers.{Answer, Untold, Refused, Compared, then_go, then_read, options_in, checked_policy, checked_recording, or_refused, Agrees, IsSettled, without, then_load, then_compare, answer_to}
use Rattle.proxy_main.specs.Loads.{LoadStops, FilesStop, IsOfFile, IsOfWords, StopsBy}

-- what was read is what is told
pub read_told : {A : Type 0} (limit : ℕ) (told : Option (List ℕ)) (items : List ℕ) (check : List ℕ → Result A Refusal) (x : Result A Refusal) →
    Given limit told [] items → check items ≡ x → IfSome told (λ bytes. check bytes ≡ x)
read_told limit None items check x given is = tt
read_told limit (Some bytes) items check x given is = ap check (sym given.is.0) ∙ is

-- ---- what the checks say

pub policy_long : (told : Option (List ℕ)) → IfSome told (λ bytes. POLICY_LIMIT < length bytes) → IfSome told (λ bytes. checked_policy bytes ≡ Err PolicyTooLong)
unfolding checked_policy
policy_long None long = tt
policy_long (Some bytes) long = grind (arith, nat_tests)

-- a recording above its limit, by the fault that each such file has
pub recording_long : (told : Option (List ℕ)) (fault : BadRecording) → ((bytes : List ℕ) → RECORDING_LIMIT < length bytes → recording_of bytes ≡ Err fault) →
    IfSome told (λ bytes. RECORDING_LIMIT < length bytes) → IfSome told (λ bytes. checked_recording bytes ≡ Err (BadFile fault))
unfolding checked_recording
recording_long None fault is long = tt
recording_long (Some bytes) fault is long = ap (or_refused BadFile) (is bytes long)

-- a policy file that was read
pub policy_read : (told : Option (List ℕ)) (items : List ℕ) (r : Result PolicyOptions BadWord) → Given POLICY_LIMIT told [] items → options_in items ≡ r →
    IfSome told (λ bytes. checked_policy bytes ≡ or_refused PolicyWord r)
unfolding checked_policy
policy_read None items r given is = tt
policy_read (Some bytes) items r given is =
    let within : nat_lt POLICY_LIMIT (length bytes) ≡ false = grind (arith, nat_tests, given.is.1) in
    ap (λ b. cond b (Err PolicyTooLong) (or_refused PolicyWord (options_in bytes))) within
    ∙ ap (λ xs. or_refused PolicyWord (options_in xs)) (sym given.is.0) ∙ ap (or_refused PolicyWord) is

-- a recording that was read
pub recording_read : (bytes : List ℕ) (r : Result Recording BadRecording) → recording_of bytes ≡ r → checked_recording bytes ≡ or_refused BadFile r
unfolding checked_recording
recording_read bytes r is = ap (or_refused BadFile) is

-- ---- why a run stops

pub read_err : {A : Type 0} (t : Option (List ℕ)) (check : List ℕ → Result A Refusal) (r : Refusal) (go : A → Answer) → IfSome t (λ bytes. check bytes ≡ Err r) → Agrees (then_read t check go) (Refused r)
read_err None check r go is = λ settled. absurd settled
read_err (Some bytes) check r go is = λ settled. ap (λ x. then_go x go) is

pub read_ok : {A : Type 0} (t : Option (List ℕ)) (check : List ℕ → Result A Refusal) (x : A) (go : A → Answer) → IfSome t (λ bytes. check bytes ≡ Ok x) → Agrees (then_read t check go) (go x)
read_ok None check x go is = λ settled. absurd settled
read_ok (Some bytes) check x go is = λ settled. ap (λ y. then_go y go) is

pub agrees-then : (a b c : Answer) → Agrees a b → Agrees b c → Agrees a c
agrees-then a b c f g = λ settled. f settled ∙ g (subst IsSettled (f settled) settled)

pub without-path : (path : List ℕ) (told : List ℕ → Option (List ℕ)) → without path told path ≡ None
without-path path told = ap (λ b. cond b None (told path)) (bytes_eq-refl path)

pub untold-first : {A : Type 0} (t : Option (List ℕ)) (check : List ℕ → Result A Refusal) (go : A → Answer) → t ≡ None → then_read t check go ≡ Untold
untold-first t check go e = ap (λ u. then_read u check go) e

-- the second file isn't told, and the first is as it was or isn't told either
pub untold-second : {A : Type 0} (b : Bool) (t : Option (List ℕ)) (check : List ℕ → Result A Refusal) (x : A) (go : A → Answer) → IfSome t (λ bytes. check bytes ≡ Ok x) → ((y : A) → go y ≡ Untold) →
    then_read (cond b None t) check go ≡ Untold
untold-second true t check x go is none = refl
untold-second false None check x go is none = refl
untold-second false (Some bytes) check x go is none = ap (λ y. then_go y go) is ∙ none x

pub loaded_both : (told : List ℕ → Option (List ℕ)) (t : Option (List ℕ)) (p r : List ℕ) (o : PolicyOptions) (x : Recording) → IfSome (told p) (λ bytes. checked_policy bytes ≡ Ok o) → t ≡ told r →
    IfSome t (λ bytes. checked_recording bytes ≡ Ok x) → (work : PolicyOptions → Recording → Answer) → Agrees (then_load told p r work) (work o x)
loaded_both told t p r o x ok same is work =
    agrees-then _ _ _ (read_ok (told p) checked_policy o _ ok) (read_ok (told r) checked_recording x (work o) (subst (λ u. IfSome u (λ bytes. checked_recording bytes ≡ Ok x)) same is))

pub stops_policy : (told : List ℕ → Option (List ℕ)) (p r : List ℕ) (s : Stop) → LoadStops checked_policy (told p) p s → FilesStop told p r s
stops_policy told p r (stop.Refused refusal) is = (λ work. read_err (told p) checked_policy refusal _ is.0, is.1)
stops_policy told p r (stop.File path) is =
    λ work. subst (λ q. then_load (without q told) p r work ≡ Untold) (sym is) (untold-first _ checked_policy _ (without-path p told))
stops_policy told p r stop.Output is = absurd is
stops_policy told p r stop.Log is = absurd is
stops_policy told p r stop.Memory is = tt

pub stops_recording : (told : List ℕ → Option (List ℕ)) (t : Option (List ℕ)) (p r : List ℕ) (o : PolicyOptions) (s : Stop) → IfSome (told p) (λ bytes. checked_policy bytes ≡ Ok o) → t ≡ told r →
    LoadStops checked_recording t r s → FilesStop told p r s
stops_recording told t p r o (stop.Refused refusal) ok same is =
    (λ work. agrees-then _ _ _ (read_ok (told p) checked_policy o _ ok) (read_err (told r) checked_recording refusal (work o) (subst (λ u. IfSome u (λ bytes. checked_recording bytes ≡ Err refusal)) same is.0)), is.1)
stops_recording told t p r o (stop.File path) ok same is =
    λ work. subst (λ q. then_load (without q told) p r work ≡ Untold) (sym is)
    (untold-second (bytes_eq p r) (told p) checked_policy o _ ok (λ y. untold-first _ checked_recording _ (without-path r told)))
stops_recording told t p r o stop.Output ok same is = absurd is
stops_recording told t p r o stop.Log ok same is = absurd is
stops_recording told t p r o stop.Memory ok same is = tt

-- ---- the files of a comparison

-- a refusal of a file is one whatever the words
pub of_file : (r : Refusal) (command : Option Command) → IsOfFile r → IsOfWords r command
of_file Usage command is = absurd is
of_file (LineWord bad) command is = absurd is
of_file ArgsTooLong command is = absurd is
of_file (PolicyWord bad) command is = tt
of_file PolicyTooLong command is = tt
of_file (BadFile fault) command is = tt
of_file NoSuchMessage command is = absurd is
of_file NoSuchSession command is = absurd is
of_file TooManyEntries command is = absurd is
of_file (Message bad) command is = absurd is
of_file (Text bad) command is = absurd is

-- what is told of the other recording when it is read, t, is what was told before
pub twins_loaded : (told : List ℕ → Option (List ℕ)) (t : Option (List ℕ)) (p a b : List ℕ) (o : PolicyOptions) (x y : Recording) →
    ((work : PolicyOptions → Recording → Answer) → Agrees (then_load told p a work) (work o x)) → t ≡ told b → IfSome t (λ bytes. checked_recording bytes ≡ Ok y) →
    Agrees (answer_to told (Some (Twin p a b))) (Compared o.policy x y)
twins_loaded told t p a b o x y loaded same is =
    agrees-then _ _ _ (loaded (then_compare told b)) (read_ok (told b) checked_recording y (Compared o.policy x) (subst (λ u. IfSome u (λ bytes. checked_recording bytes ≡ Ok y)) same is))

pub twins_stop_first : (told : List ℕ → Option (List ℕ)) (p a b : List ℕ) (s : Stop) → FilesStop told p a s → StopsBy told (Some (Twin p a b)) s
twins_stop_first told p a b (stop.Refused refusal) is = (is.0 (then_compare told b), of_file refusal (Some (Twin p a b)) is.1)
twins_stop_first told p a b (stop.File path) is = is (then_compare (without path.now told) b)
twins_stop_first told p a b stop.Output is = absurd is
twins_stop_first told p a b stop.Log is = absurd is
twins_stop_first told p a b stop.Memory is = tt

pub twins_stop_other : (told : List ℕ → Option (List ℕ)) (t : Option (List ℕ)) (p a b : List ℕ) (o : PolicyOptions) (x : Recording) (s : Stop) → IfSome (told p) (λ bytes. checked_policy bytes ≡ Ok o) →
    IfSome (told a) (λ bytes. checked_recording bytes ≡ Ok x) → t ≡ told b → LoadStops checked_recording t b s → StopsBy told (Some (Twin p a b)) s
twins_stop_other told t p a b o x (stop.Refused refusal) ok one same is = (
  agrees-then _ _ _ (loaded_both told (told a) p a o x ok refl one (then_compare told b))
      (read_err (told b) checked_recording refusal (Compared o.policy x) (subst (λ u. IfSome u (λ bytes. checked_recording bytes ≡ Err refusal)) same is.0)),
  of_file refusal (Some (Twin p a b)) is.1,
)
twins_stop_other told t p a b o x (stop.File path) ok one same is =
    subst (λ q. then_load (without q told) p a (then_compare (without q told) b) ≡ Untold) (sym is)
    (untold-second (bytes_eq p b) (told p) checked_policy o _ ok
    (λ y. untold-second (bytes_eq a b) (told a) checked_recording x (then_compare (without b told) b y) one
    (λ z. untold-first _ checked_recording _ (without-path b told))))
twins_stop_other told t p a b o x stop.Output ok one same is = absurd is
twins_stop_other told t p a b o x stop.Log ok one same is = absurd is
twins_stop_other told t p a b o x stop.Memory ok one same is = tt
