-- Numbers and their secrets in a first frame.
use Rattle.std.proofs.Common.{◌≡◌, ◌≤◌, ◌<◌, ◌||◌, ◌&&◌, not, ℕ, suc, ◌+◌, Bool, true, false, cond, eqb, eq-eqb, leb, arith, List, [], ◌∷◌, ◌++◌, length, map, take, drop, get_or, Option, Some, None, refl, sym, ap, ◌∙◌, subst, append_assoc}
use Rattle.std.specs.List.{AllByRecursion}
use Rattle.std.specs.Str.{bytes_eq}
use Rattle.std.proofs.lemmas.Bool.{eqb-true}
use Rattle.std.proofs.lemmas.List.{drop_all}
use Rattle.std.proofs.lemmas.Slice.Eq.{bytes_eq-Decides}
use Rattle.sms_link.specs.framing.Framing.{framed, joined}
use Rattle.sms_centre_spec.specs.declared.jobs.job.Job.{Job}
use Rattle.sms_centre_spec.specs.declared.jobs.job.Job.TheVariants.{LinkUp}
use Rattle.smsc_endpoint.specs.declared.link_access.LinkAccess.TheVariants.{Secrets}
use Rattle.smsc_endpoint.specs.declared.link_access.LinkSecret.{LinkSecret}
use Rattle.smsc_endpoint.specs.FirstFrame.{before_space, behind_space, is_number, is_secret_of, next_octet, number_by, number_of}
use Rattle.smsc_endpoint.proofs.LinkUps.{IsNamedUp}
use Rattle.smsc_endpoint.specs.LinkRuns.{GaveSecret, HasGivenSecret, IsBySecret, IsCutUp, IsGiven, IsLinkJob, IsWaitingJob, LinkProgress, all_jobs, frames_of}

-- ---- the parts of a frame

take_if : (b : Bool) (octet : ℕ) (octets before : List ℕ) → take (length before) octets ≡ before
    → take (length (cond b [] (octet ∷ before))) (octet ∷ octets) ≡ cond b [] (octet ∷ before)
take_if true octet octets before h = refl
take_if false octet octets before h = ap (λ (l : List ℕ). octet ∷ l) h

pub before_is_taken : (octets : List ℕ) → take (length (before_space octets)) octets ≡ before_space octets
before_is_taken [] = refl
before_is_taken (octet ∷ octets) = take_if (eqb octet 0x20) octet octets (before_space octets) (before_is_taken octets)

parts_if : (b : Bool) (octet : ℕ) (octets secret : List ℕ) → eqb octet 0x20 ≡ b → (behind_space octets ≡ Some secret → octets ≡ before_space octets ++ 0x20 ∷ secret)
    → cond b (Some octets) (behind_space octets) ≡ Some secret → octet ∷ octets ≡ cond b [] (octet ∷ before_space octets) ++ 0x20 ∷ secret
parts_if true octet octets secret is h e =
    let same : octets ≡ secret = cc in
    let space : octet ≡ 0x20 = eqb-true octet 0x20 is in
    ap (λ (o : ℕ). o ∷ octets) space ∙ ap (λ (l : List ℕ). 0x20 ∷ l) same
parts_if false octet octets secret is h e = ap (λ (l : List ℕ). octet ∷ l) (h e)

-- a frame with a space is what is before it, the space, and what is behind it
pub parts_of : (octets secret : List ℕ) → behind_space octets ≡ Some secret → octets ≡ before_space octets ++ 0x20 ∷ secret
parts_of [] secret e = let no : None ≡ Some secret = e in absurd cc
parts_of (octet ∷ octets) secret e = parts_if (eqb octet 0x20) octet octets secret refl (parts_of octets secret) e

-- ---- whose link a frame is given

-- what a number is that its secret was given for
pub record IsShown (number secret handset : List ℕ) (secrets : List LinkSecret) : Type 0 where
  pub named : number ≡ handset
  pub is_number : is_number handset ≡ true
  pub is_its : is_secret_of handset secret secrets ≡ true

shown_if : (its is : Bool) (number secret handset : List ℕ) (secrets : List LinkSecret) → is_secret_of number secret secrets ≡ its → is_number number ≡ is
    → cond its (cond is (Some number) None) None ≡ Some handset → IsShown number secret handset secrets
shown_if true true number secret handset secrets s n e =
    let same : number ≡ handset = cc in
    record { named = same; is_number = ap is_number (sym same) ∙ n; is_its = ap (λ (d : List ℕ). is_secret_of d secret secrets) (sym same) ∙ s }
shown_if true false number secret handset secrets s n e = let no : None ≡ Some handset = e in absurd cc
shown_if false is number secret handset secrets s n e = let no : None ≡ Some handset = e in absurd cc

gave_by : (behind : Option (List ℕ)) (frame handset octets rest : List ℕ) (secrets : List LinkSecret) → behind_space frame ≡ behind
    → number_by (before_space frame) behind secrets ≡ Some handset → octets ≡ framed frame ++ rest → GaveSecret secrets handset octets
gave_by None frame handset octets rest secrets is e parts = let no : None ≡ Some handset = e in absurd cc
gave_by (Some secret) frame handset octets rest secrets is e parts =
    let shown = shown_if (is_secret_of (before_space frame) secret secrets) (is_number (before_space frame)) (before_space frame) secret handset secrets refl refl e in
    let whole : frame ≡ handset ++ 0x20 ∷ secret = parts_of frame secret is ∙ ap (λ (d : List ℕ). d ++ 0x20 ∷ secret) shown.named in record {
      secret = secret;
      rest = rest;
      begins = parts ∙ ap (λ (f : List ℕ). framed f ++ rest) whole;
      is_number = shown.is_number;
      is_its = shown.is_its;
    }

-- ---- over any calls

gave : (secrets : List LinkSecret) (first frames : List (List ℕ)) (handset octets rest : List ℕ) → octets ≡ joined (first ++ frames) ++ rest
    → IsGiven (Secrets secrets) first handset → GaveSecret secrets handset octets
gave secrets first frames handset octets rest parts g =
    let frame = g.0 in
    let begins : octets ≡ framed frame ++ (joined frames ++ rest) =
    parts ∙ (ap (λ (fs : List (List ℕ)). joined (fs ++ frames) ++ rest) g.1 ∙ append_assoc (framed frame) (joined frames) rest) in
    gave_by (behind_space frame) frame handset octets (joined frames ++ rest) secrets refl g.2 begins

module _ (secrets : List LinkSecret) (c : LinkProgress) (h : IsCutUp (Secrets secrets) c) (n : IsNamedUp c.link) where
  named : (handset : List ℕ) → IsGiven (Secrets secrets) h.first handset → GaveSecret secrets handset c.arrived
  named handset g = gave secrets h.first (frames_of (all_jobs c)) handset c.arrived c.link.unread h.parts g

  waiting_named : (job : Job) → IsWaitingJob (Secrets secrets) h.first job → IsBySecret secrets c.arrived job
  waiting_named (LinkUp handset) g = named handset g
  waiting_named _ g = tt

  left_named : (job : Job) → IsLinkJob (Secrets secrets) h.first job → IsBySecret secrets c.arrived job
  left_named (LinkUp handset) g = named handset g
  left_named _ g = tt

  all_named : (left waiting : List Job) → AllByRecursion (IsLinkJob (Secrets secrets) h.first) left → AllByRecursion (IsWaitingJob (Secrets secrets) h.first) waiting
      → AllByRecursion (IsBySecret secrets c.arrived) (left ++ waiting)
  all_named [] [] l w = tt
  all_named [] (job ∷ jobs) l w = (waiting_named job w.0, all_named [] jobs l w.1)
  all_named (job ∷ jobs) waiting l w = (left_named job l.0, all_named jobs waiting l.1 w)

  pub has_given : HasGivenSecret secrets c
  has_given = record {
    up = n;
    handset = λ handset e. named handset (h.names handset e);
    jobs = all_named c.left c.link.outbox.jobs h.left h.waiting;
  }

-- ---- secrets that are compared

-- whether a difference was found, or one is among these
abbrev pub differs_over : Bool → List ℕ → List ℕ → Bool
differs_over found secret [] = found
differs_over found secret (octet ∷ octets) = differs_over (found || not (eqb (next_octet secret).0 octet)) (next_octet secret).1 octets

found_stays : (secret octets : List ℕ) → differs_over true secret octets ≡ true
found_stays secret [] = refl
found_stays secret (octet ∷ octets) = found_stays (next_octet secret).1 octets

same_if : (b : Bool) (secret octets : List ℕ) → not (differs_over false secret octets) ≡ bytes_eq secret octets
    → not (differs_over (false || not b) secret octets) ≡ (b && bytes_eq secret octets)
same_if true secret octets h = h
same_if false secret octets h = ap not (found_stays secret octets)

as_long : (secret octets : List ℕ) → length secret ≡ length octets → not (differs_over false secret octets) ≡ bytes_eq secret octets
as_long [] [] e = refl
as_long [] (octet ∷ octets) e = absurd (omega (arith, e))
as_long (own ∷ secret) [] e = absurd (omega (arith, e))
as_long (own ∷ secret) (octet ∷ octets) e = same_if (eqb own octet) secret octets (as_long secret octets (omega (arith, e)))

not_same : (b : Bool) (secret octets : List ℕ) → bytes_eq secret octets ≡ b → eqb (length secret) (length octets) ≡ false → false ≡ b
not_same true secret octets is e =
    let same : secret ≡ octets = (bytes_eq-Decides secret octets).0 is in
    sym e ∙ eq-eqb (length secret) (length octets) (ap (λ (l : List ℕ). length l) same)
not_same false secret octets is e = refl

by_length : (b : Bool) (secret octets : List ℕ) → eqb (length secret) (length octets) ≡ b → not (differs_over (not b) secret octets) ≡ bytes_eq secret octets
by_length true secret octets e = as_long secret octets (eqb-true (length secret) (length octets) e)
by_length false secret octets e = ap not (found_stays secret octets) ∙ not_same (bytes_eq secret octets) secret octets refl e

pub all_compared : (secret octets : List ℕ) → not (differs_over (not (eqb (length secret) (length octets))) secret octets) ≡ bytes_eq secret octets
all_compared secret octets = by_length (eqb (length secret) (length octets)) secret octets refl

pub all_found : (secret octets left : List ℕ) (place : ℕ) (found : Bool) → length octets ≤ place
    → differs_over found left (drop place octets) ≡ differs_over (not (eqb (length secret) (length octets))) secret octets → not found ≡ bytes_eq secret octets
all_found secret octets left place found past e =
    ap not (ap (λ (rest : List ℕ). differs_over found left rest) (sym (drop_all place octets past)) ∙ e) ∙ all_compared secret octets
