-- What the comparison of two policies answers, and its status and output.
use Rattle.std.proofs.Common.{◌≡◌, ◌↔◌, ◌∙◌, inl, inr, ℕ, List, Option, Result, Ok, Err, IfErr, IfOk, OnOk, IsTrue, ap, refl, sym, rules, []}
use Rattle.std.proofs.lemmas.Bool.{false≢true}
use Rattle.link_traits.specs.Told.{added}
use Rattle.policy_args.specs.Policy.{Policy}
use Rattle.policy_args.specs.Requests.{Within}
use Rattle.policy_within.specs.Within.{answer_of, is_yes}
use Rattle.policy_within.specs.declared.answer.WithinAnswer.{WithinAnswer}
use Rattle.policy_within.specs.declared.answer.WithinAnswer.TheVariants.{Yes, No}
use Rattle.proxy_main.specs.declared.Status.{Status}
use Rattle.proxy_main.specs.declared.Stop.{Stop}
use Rattle.proxy_main.specs.declared.Stop.TheVariants as stops
use Rattle.proxy_main.specs.Answers.{Agrees, Answer, Contained, HasCode, Wrote}
use Rattle.proxy_main.specs.Loads.{CausedBy, IsDone, IsFront, Keeps}
use Rattle.proxy_main.specs.WithinText.{within_code, within_text}
use Rattle.proxy_main.proofs.Endings.{front_as}

contained_code : (one other : Policy) (answer : WithinAnswer) (code : ℕ) → IsTrue (is_yes answer) ↔ Within one other → code ≡ within_code answer → HasCode (Contained one other) code
contained_code one other (Yes covered) code decides is = inl (decides.0 (search rules), sym is)
contained_code one other (No asked) code decides is = inr (λ within. absurd (false≢true (decides.1 within)), sym is)

-- the answer was written
pub contained_done : (one other : Policy) (answer : WithinAnswer) (code : ℕ) (out new_out : Option (List ℕ)) → answer ≡ answer_of one other → IsTrue (is_yes answer) ↔ Within one other → code ≡ within_code answer →
    new_out ≡ added (within_text answer) out → IsDone (Contained one other) out new_out code
contained_done one other answer code out new_out exact decides is written = λ settled.
    (contained_code one other answer code decides is, (within_text (answer_of one other), refl, written ∙ ap (λ (a : WithinAnswer). added (within_text a) out) exact), λ zero. tt)

-- .. or a prefix of it
pub contained_front : (one other : Policy) (answer : WithinAnswer) (out new_out : Option (List ℕ)) → answer ≡ answer_of one other → IsFront (Wrote (within_text answer) []) out new_out → IsFront (Contained one other) out new_out
contained_front one other answer out new_out exact front = λ settled. let f = front tt in (f.0, ap within_text (sym exact) ∙ f.1, f.2)

-- what a run that writes the answer comes to
pub contained_result : (one other : Policy) (answer : WithinAnswer) (result : Result Status Stop) (out new_out : Option (List ℕ)) → answer ≡ answer_of one other → IsTrue (is_yes answer) ↔ Within one other →
    IfOk result (λ status. status.code ≡ within_code answer) → OnOk result (new_out ≡ added (within_text answer) out) → IfOk result (λ status. IsDone (Contained one other) out new_out status.code)
contained_result one other answer (Ok status) out new_out exact decides is written = contained_done one other answer status.code out new_out exact decides is written
contained_result one other answer (Err stop) out new_out exact decides is written = tt

-- ---- work whose files were read

pub err_weaker : {A E : Type 0} (result : Result A E) (P Q : E → Type 0) → ((e : E) → P e → Q e) → IfErr result P → IfErr result Q
err_weaker (Ok x) P Q more h = tt
err_weaker (Err e) P Q more h = more e h

pub caused_more : (files out : Type 0) (stop : Stop) → CausedBy ⊥ out ⊥ stop → CausedBy files out ⊥ stop
caused_more files out (stops.Refused refusal) h = tt
caused_more files out (stops.File path) h = absurd h
caused_more files out stops.Output h = h
caused_more files out stops.Log h = h
caused_more files out stops.Memory h = tt

pub keeps_as : (a b : Answer) (out new_out : Option (List ℕ)) → Agrees a b → (stop : Stop) → Keeps b out new_out stop → Keeps a out new_out stop
keeps_as a b out new_out agrees (stops.Refused refusal) h = h
keeps_as a b out new_out agrees (stops.File path) h = h
keeps_as a b out new_out agrees stops.Output h = front_as a b out new_out agrees h
keeps_as a b out new_out agrees stops.Log h = h
keeps_as a b out new_out agrees stops.Memory h = h
