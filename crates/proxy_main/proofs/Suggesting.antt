-- What the recordings for which a policy is suggested come to.
use Rattle.std.proofs.Common.{◌≡◌, ◌≤◌, ◌<◌, ℕ, false, List, [], Option, Some, if◌then◌else◌, length, nat_lt, refl, ap, sym, subst, ◌∙◌, arith}
use Rattle.std.proofs.lemmas.Bool.{false_from_ne_true, lt-ltb, ltb-true}
use Rattle.link_traits.specs.Told.{Part, added}
use Rattle.recording.specs.Recording.{Recording}
use Rattle.suggestion.specs.Suggestion.{policy_for, suggestion_of}
use Rattle.proxy_main.specs.declared.Refusal.TheVariants.{TooManyEntries}
use Rattle.proxy_main.specs.declared.Stop.{Stop}
use Rattle.proxy_main.specs.declared.Stop.TheVariants as stop
use Rattle.proxy_main.specs.Words.{Command, Suggest}
use Rattle.proxy_main.specs.Answers.{Agrees, Answer, Refused, Wrote, answer_to, suggesting, IsSettled, IsWork}
use Rattle.proxy_main.specs.Loads.{StopsBy, IsDone, IsFront, IsSuggest}
use Rattle.proxy_main.specs.ManyFiles.{OneStops}
use Rattle.proxy_main.proofs.Loading.{of_file}

few : (n : ℕ) → n ≤ 65535 → nat_lt 65535 n ≡ false
few n most = false_from_ne_true (nat_lt 65535 n) (λ is. omega (arith, ltb-true 65535 n is, most))

module _ (recordings : List Recording) where
  pub suggesting-few : length (policy_for recordings).entries ≤ 65535 → suggesting recordings ≡ Wrote (suggestion_of recordings) []
  unfolding suggesting
  suggesting-few most = ap (λ b. if b then Refused TooManyEntries else Wrote (suggestion_of recordings) []) (few (length (policy_for recordings).entries) most)

  pub suggesting-many : 65535 < length (policy_for recordings).entries → suggesting recordings ≡ Refused TooManyEntries
  unfolding suggesting
  suggesting-many more = ap (λ b. if b then Refused TooManyEntries else Wrote (suggestion_of recordings) []) (lt-ltb 65535 (length (policy_for recordings).entries) more)

  -- ---- their policy, written or refused

  module _ (out new_out : Option (List ℕ)) (most : length (policy_for recordings).entries ≤ 65535) where
    pub few-done : new_out ≡ added (suggestion_of recordings) out → IsDone (suggesting recordings) out new_out 0
    few-done all = subst (λ (a : Answer). IsDone a out new_out 0) (sym (suggesting-few most)) (λ settled. (refl, (suggestion_of recordings, refl, all), λ same. tt))

    pub few-front : Part out new_out (suggestion_of recordings) → IsFront (suggesting recordings) out new_out
    few-front part = subst (λ (a : Answer). IsFront a out new_out) (sym (suggesting-few most)) (λ settled. (suggestion_of recordings, refl, part))

  module _ (told : List ℕ → Option (List ℕ)) (command : Option Command) (agrees : Agrees (answer_to told command) (suggesting recordings)) where
    pub few-work : length (policy_for recordings).entries ≤ 65535 → IsSettled (answer_to told command) → IsWork (answer_to told command)
    few-work most settled = subst IsWork (sym (agrees settled ∙ suggesting-few most)) tt

    pub many-stops : 65535 < length (policy_for recordings).entries → IsSuggest command → StopsBy told command (stop.Refused TooManyEntries)
    many-stops more is = (λ settled. agrees settled ∙ suggesting-many more, is)

-- one of the recordings is why a run stops
pub suggest-stops : (told : List ℕ → Option (List ℕ)) (paths : List (List ℕ)) (s : Stop) → OneStops told paths s → StopsBy told (Some (Suggest paths)) s
suggest-stops told paths (stop.Refused refusal) h = (h.0 suggesting, of_file refusal (Some (Suggest paths)) h.1)
suggest-stops told paths (stop.File path) h = h suggesting
suggest-stops told paths stop.Output h = absurd h
suggest-stops told paths stop.Log h = absurd h
suggest-stops told paths stop.Memory h = tt
