-- The laws hold along every history.
use Rattle.std.proofs.Common.{◌≡◌, ℕ, List, [], ◌∷◌, Ok, Err, sym, refl, subst}
use Rattle.rules.specs.States.{State}
use Rattle.rules.specs.Rounds.{StepsInRow, none, more}
use Rattle.rules.specs.Laws.{Event, create, add_child, get_child, make, protect, unprotect, send, receive, begin, step, run, Told, tell, told, Moment, moment, AtEveryMoment, NoFreeCellLive, CountsBalance, FreedAfterRises, Does, during, History, started, then, InEveryHistory}
use Rattle.rules.specs.Limits.{CountsWithin, ChildrenWithin, StacksFit, RoundsWithin}
use Rattle.rules.proofs.Led.{Led, led_same}
use Rattle.rules.proofs.Keeping.{Good, extend, first_good}
use Rattle.rules.proofs.CallsSeen.{creates, adds_child, gets_child, makes, protects, unprotects, sends, receives, begins, steps_led}

pub row_good : {p : ℕ} {s t : State} {trail : List State} (ms : List Moment) (k : Told) → Good ms k s → StepsInRow p s trail t → Good (during k trail ms) k t
row_good ms k g none = g
row_good {p} ms k g (more {t} {u} {trail} next r h) =
    let a = row_good ms k g r in extend (λ z. z) (during k trail ms) k t u a (steps_led t a.shape a.inv p a.apart (Ok next) u h)

-- a call with no inner moments
at_once : (e : Event) (ms : List Moment) (k : Told) (s t : State) (trail : List State) → Good ms k s → trail ≡ [] → Led (tell e) s t → Good (moment (tell e k) t ∷ during k trail ms) (tell e k) t
at_once e ms k s t trail g q l = subst (λ (z : List State). Good (moment (tell e k) t ∷ during k z ms) (tell e k) t) (sym q) (extend (tell e) ms k s t g l)

called : (e : Event) (trail : List State) (ms : List Moment) (k : Told) (s t : State) → Good ms k s → Does s e trail t → Good (moment (tell e k) t ∷ during k trail ms) (tell e k) t
called (create p x a) trail ms k s t g d = at_once (create p x a) ms k s t trail g d.0 (creates s g.shape g.inv p x a t d.1)
called (add_child p x y a) trail ms k s t g d = at_once (add_child p x y a) ms k s t trail g d.0 (adds_child s g.shape g.inv p x y a t d.1)
called (get_child p x j a) trail ms k s t g d = at_once (get_child p x j a) ms k s t trail g d.0 (gets_child s g.shape g.inv p x j a t d.1)
called (make p x list a) trail ms k s t g d = at_once (make p x list a) ms k s t trail g d.0 (makes s g.shape g.inv p x list a t d.1)
called (protect p x a) trail ms k s t g d = at_once (protect p x a) ms k s t trail g d.0 (protects s g.shape g.inv p x a t d.1)
called (unprotect p x a) trail ms k s t g d = at_once (unprotect p x a) ms k s t trail g d.0 (unprotects s g.shape g.inv p x a t d.1)
called (send p x r a) trail ms k s t g d = at_once (send p x r a) ms k s t trail g d.0 (sends s g.shape g.inv p x r a t d.1)
called (receive p r a) trail ms k s t g d = at_once (receive p r a) ms k s t trail g d.0 (receives s g.shape g.inv p r a t d.1)
called (begin p a) trail ms k s t g d = at_once (begin p a) ms k s t trail g d.0 (begins s g.shape g.inv p a t d.1)
called (step p a) trail ms k s t g d = at_once (step p a) ms k s t trail g d.0 (steps_led s g.shape g.inv p g.apart a t d.1)
called (run p n (Err e)) trail ms k s t g d = at_once (run p n (Err e)) ms k s t trail g d.0 (led_same s t g.shape d.2)
called (run p n (Ok made)) trail ms k s t g d =
    let a = row_good ms k g d.1 in extend (λ z. z) (during k trail ms) k t t a (led_same t t a.shape refl)

pub good : {es : List Event} {ms : List Moment} {s : State} → History es ms s → Good ms (told es) s
good (started n w first top a b c d) = first_good n w first top a b c d
good (then {es} {ms} {s} {t} e trail h d) = called e trail ms (told es) s t (good h) d

pub safe : InEveryHistory (AtEveryMoment NoFreeCellLive)
safe es ms s h = (good h).laws.safe

pub balanced : InEveryHistory (AtEveryMoment CountsBalance)
balanced es ms s h = (good h).laws.balanced

pub prompt : InEveryHistory (FreedAfterRises 3)
prompt es ms s h = (good h).laws.prompt

pub counts : InEveryHistory (AtEveryMoment (CountsWithin 65535))
counts es ms s h i m p = ((good h).laws.bounded i m p).0

pub children : InEveryHistory (AtEveryMoment (ChildrenWithin 8))
children es ms s h i m p = ((good h).laws.bounded i m p).1

pub stacks : InEveryHistory (AtEveryMoment StacksFit)
stacks es ms s h i m p = ((good h).laws.bounded i m p).2

pub rounds : InEveryHistory (AtEveryMoment (RoundsWithin 4294967294))
rounds es ms s h i m p = ((good h).laws.bounded i m p).3
