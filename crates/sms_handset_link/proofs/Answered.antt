-- The answers to what an owner asks, one after the other.
use Rattle.std.proofs.Common.{◌≡◌, ℕ, List, [], ◌∷◌, ◌++◌, Option, Result, Ok, Err, refl, sym, ap, subst, ◌∙◌, append_assoc}
use Rattle.std.proofs.lemmas.List.{append-nil}
use Rattle.std.specs.Io.KnownBytes.{Appends}
use Rattle.sms_handset.specs.declared.event.HandsetEvent.{HandsetEvent}
use Rattle.sms_handset.specs.declared.event.HandsetEvent.TheVariants.{Tick}
use Rattle.sms_handset.specs.declared.refusal.Refusal.{Refusal}
use Rattle.sms_handset.specs.machine.Stepping.{happened}
use Rattle.sms_handset_draft.specs.Draft.{Core, Draft}
use Rattle.sms_script.specs.declared.owner.act.OwnersAct.{OwnersAct}
use Rattle.sms_script.specs.declared.owner.act.OwnersAct.TheVariants.{Write, Delete, Discard}
use Rattle.sms_handset_link.specs.Answering.{answer_of, answers_to, behind, behind_by}
use Rattle.sms_handset_link.specs.Asking.{answer_to, event_of}
use Rattle.sms_handset_link.specs.Run.{Follows, Sends, SendsBy}

pub appends_as : (a b : Option (List ℕ)) (one other : List ℕ) → Appends a b one → one ≡ other → Appends a b other
appends_as a b one other p e = subst (λ (l : List ℕ). Appends a b l) e p

sends_by_behind : (r : Result Draft Refusal) (a b : Core) (out : List ℕ) → SendsBy r a b out → b ≡ behind_by r a
sends_by_behind (Ok d) a b out s = s.0
sends_by_behind (Err refusal) a b out s = s.0

-- an event leads to one handset
pub sends_behind : (event : HandsetEvent) (a b : Core) (out : List ℕ) → Sends event a b out → b ≡ behind event a
sends_behind event a b out s = sends_by_behind (happened event a) a b out s

answers_join : (one other : List HandsetEvent) (a b : Core) (out : List ℕ) → Follows one a b out → answers_to (one ++ other) a ≡ answers_to one a ++ answers_to other b
answers_join [] other a b out h = ap (λ (c : Core). answers_to other c) (sym h.0)
answers_join (event ∷ one) other a b out h =
    let here : h.0 ≡ behind event a = sends_behind event a h.0 h.1 h.3.0 in
    let rest : answers_to (one ++ other) h.0 ≡ answers_to one h.0 ++ answers_to other b = answers_join one other h.0 b h.2 h.3.1 in
    ap (λ (c : Core). answer_of event a ++ answers_to (one ++ other) c) (sym here)
    ∙ (ap (λ (l : List ℕ). answer_of event a ++ l) rest
    ∙ (sym (append_assoc (answer_of event a) (answers_to one h.0) (answers_to other b))
    ∙ ap (λ (c : Core). (answer_of event a ++ answers_to one c) ++ answers_to other b) here))

asked_answer : (act : OwnersAct) (c : Core) → answer_of (event_of act) c ≡ answer_to (event_of act) c
asked_answer (Write to report text) c = refl
asked_answer (Delete entry) c = refl
asked_answer (Discard entry) c = refl

-- one act more, behind its tick
pub answers_more : (timed : List HandsetEvent) (now : ℕ) (act : OwnersAct) (a b c : Core) (out tick : List ℕ) → Follows timed a b out → Sends (Tick now) b c tick
    → answers_to (timed ++ Tick now ∷ event_of act ∷ []) a ≡ answers_to timed a ++ answer_to (event_of act) c
answers_more timed now act a b c out tick h s =
    let ticked : c ≡ behind (Tick now) b = sends_behind (Tick now) b c tick s in
    answers_join timed (Tick now ∷ event_of act ∷ []) a b out h
    ∙ ap (λ (l : List ℕ). answers_to timed a ++ l)
    (append-nil (answer_of (event_of act) (behind (Tick now) b))
    ∙ (asked_answer act (behind (Tick now) b) ∙ ap (λ (core : Core). answer_to (event_of act) core) (sym ticked)))
