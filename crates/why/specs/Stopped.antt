-- What stops a verdict, told without carrying it out: by how many are listed, lent and held. And the laws: it is what the handler is refused by.
-- Assumes nothing.
use Rattle.std.specs.Prelude.{◌≡◌, refl, Bool, true, false, List, [], ◌∷◌, ℕ, ◌-◌, length, eqb, leb}
use Rattle.std.proofs.Common.{ap, sym, ◌∙◌, arith, ne_eqb}
use Rattle.model.specs.declared.Kind.TheVariants as kind
use Rattle.model.specs.declared.Refusal.{Refusal}
use Rattle.model.specs.declared.Refusal.TheVariants.{NumberEnd, ListFull, DrawsShort}
use Rattle.model.specs.Rows.{pick}
use Rattle.model.specs.Bounds.{list_places, heap_places}
use Rattle.model.specs.Answers.{Answer, done, refused, and_then, when, draw, full_of}
use Rattle.address.specs.Here.{Addr, here}
use Rattle.model.specs.Words as W
use Rattle.model.specs.Members as list
use Rattle.model.specs.Node as M
use Rattle.model.specs.Collect.{collects, cleared}
use Rattle.laws_choose.specs.Collecting.{cleared-length}
use Rattle.model.specs.Handler as handler
use Rattle.disseminate.specs.declared.Found.{Found}
use Rattle.disseminate.specs.declared.Found.TheVariants.{Missing, At}
use Rattle.disseminate.specs.Views.{from_found, of_kind}
use Rattle.rules.specs.Views.{collects_for}
use Rattle.why.specs.declared.Grounds.{Grounds}
use Rattle.why.specs.declared.Grounds.TheVariants.{Because, Refused}
use Rattle.why.specs.declared.Stop.{Stop}
use Rattle.why.specs.declared.Stop.TheVariants as stop
use Rattle.why.specs.Why.{reason_of, held_number, because, weigh, verdict_on, unless_refused}

-- an address is added: 7, 8
abbrev pub add_stop : ℕ → ℕ → Stop
add_stop listed draws = pick (leb list_places listed) (stop.By ListFull) (pick (eqb draws 0) (stop.By DrawsShort) stop.Nothing)

-- the list: 6, 7, 8
abbrev pub list_stop : handler.Verdict Addr → ℕ → ℕ → Stop
list_stop handler.Skip listed draws = stop.Nothing
list_stop handler.Unknown listed draws = stop.Nothing
list_stop handler.Equal listed draws = stop.Nothing
list_stop handler.Low listed draws = stop.Nothing
list_stop handler.AtEnd listed draws = stop.By NumberEnd
list_stop (handler.Refute n) listed draws = stop.Nothing
list_stop (handler.Enter a n) listed draws = add_stop listed draws
list_stop (handler.Raise a n) listed draws = stop.Nothing
list_stop (handler.Recover a n) listed draws = stop.Nothing
list_stop (handler.Suspect a n) listed draws = stop.Nothing
list_stop (handler.Bury a n) listed draws = stop.Nothing

-- the heap that news goes to: 9 or 13
abbrev pub heap_stop : handler.News Addr → ℕ → ℕ → Stop
heap_stop handler.Silent alive deceased = stop.Nothing
heap_stop (handler.Emits k e) alive deceased = pick (leb heap_places (of_kind k alive deceased)) (stop.By (full_of k)) stop.Nothing

-- and with what a node holds: "Freed places are used before 9 is given."
abbrev pub heaps_stop : handler.News Addr → M.Node Addr → Stop
heaps_stop w s = heap_stop w (length s.disseminator.alive - collects_for s.settings.collect w s.disseminator.alive) (length s.disseminator.deceased)

abbrev pub or_stop : Stop → Stop → Stop
or_stop stop.Nothing y = y
or_stop (stop.By r) y = stop.By r

abbrev pub stop_of : M.Node Addr → handler.Verdict Addr → ℕ → Stop
stop_of s v draws = or_stop (list_stop v (length s.members.table) draws) (heaps_stop (handler.news_of here v s.own) s)

-- the reason with its numbers, by an event's parts: kind 0 is that of no event
abbrev pub parts_grounds : List (W.Member Addr) → W.Parts Addr → Found → handler.Verdict Addr → Grounds
parts_grounds t p dead v =
    pick (eqb p.kind 0)
    (Because (reason_of v p.number) Missing Missing Missing)
    (Because (reason_of v p.number) (held_number here p.subject t) (At p.number) dead)

-- what stopped an answer
abbrev pub stop_in : {B : Type 0} → Answer B → Stop
stop_in (refused r) = stop.By r
stop_in (done b ds) = stop.Nothing

abbrev pub unless_stopped : Stop → Grounds → Grounds
unless_stopped stop.Nothing g = g
unless_stopped (stop.By r) g = Refused r

add-stops : (u : Bool) (ds : List ℕ) (k : ℕ → List ℕ → list.Members Addr) → stop_in (when u (refused ListFull) (draw ds λ d rest. done (k d rest) rest)) ≡ pick u (stop.By ListFull) (pick (eqb (length ds) 0) (stop.By DrawsShort) stop.Nothing)
unfolding when
add-stops true ds k = refl
add-stops false [] k = refl
add-stops false (d ∷ ds) k = ap (λ (u : Bool). pick u (stop.By DrawsShort) stop.Nothing) (sym (ne_eqb (length (d ∷ ds)) 0 (λ e. absurd (omega arith))))

list_stops : (v : handler.Verdict Addr) (m : list.Members Addr) (ds : List ℕ) → stop_in (handler.list_after here v m ds) ≡ list_stop v (length m.table) (length ds)
unfolding handler.list_after list.add
list_stops handler.Skip m ds = refl
list_stops handler.Unknown m ds = refl
list_stops handler.Equal m ds = refl
list_stops handler.Low m ds = refl
list_stops handler.AtEnd m ds = refl
list_stops (handler.Refute n) m ds = refl
list_stops (handler.Enter a n) m ds = add-stops (leb list_places (length m.table)) ds (λ d rest. list.added here.same a n d m)
list_stops (handler.Raise a n) m ds = refl
list_stops (handler.Recover a n) m ds = refl
list_stops (handler.Suspect a n) m ds = refl
list_stops (handler.Bury a n) m ds = refl

push_stops : {B C : Type 0} (u : Bool) (r : Refusal) (b : B) (ds : List ℕ) (k : B → C) → stop_in (and_then (when u (refused r) (done b ds)) λ d rest. done (k d) rest) ≡ pick u (stop.By r) stop.Nothing
unfolding when
push_stops true r b ds k = refl
push_stops false r b ds k = refl

-- news of a node whose heaps hold so many
tell_stops : (w : handler.News Addr) (s : M.Node Addr) (ds : List ℕ) → stop_in (handler.tell here w s ds) ≡ heaps_stop w s
unfolding M.quiet M.emit M.pushed
tell_stops handler.Silent s ds = refl
tell_stops (handler.Emits kind.Alive e) s ds =
    let on = s.settings.collect in
    let g : W.Gossip Addr = record { event = e } in
    let h = s.disseminator.alive in
    let room : length (cleared here on kind.Alive g h) ≡ length h - collects here on kind.Alive g h = omega (arith, cleared-length here kind.Alive g h on) in
    push_stops (leb heap_places (length (cleared here on kind.Alive g h))) _ _ ds _ ∙ ap (λ (n : ℕ). pick (leb heap_places n) (stop.By (full_of kind.Alive)) stop.Nothing) room
tell_stops (handler.Emits kind.Deceased e) s ds = push_stops (leb heap_places (length s.disseminator.deceased)) _ _ ds _

then_stops : (x : Answer (list.Members Addr)) (w : handler.News Addr) (s : M.Node Addr) (gone : List (W.Departed Addr))
    → stop_in (and_then x λ m rest. handler.tell here w (M.with_lists s m gone) rest) ≡ or_stop (stop_in x) (heaps_stop w s)
then_stops (refused r) w s gone = refl
then_stops (done m rest) w s gone = tell_stops w (M.with_lists s m gone) rest

pub act_stops : (v : handler.Verdict Addr) (s : M.Node Addr) (ds : List ℕ) → stop_in (handler.act here v s ds) ≡ stop_of s v (length ds)
unfolding handler.act
act_stops v s ds =
    then_stops (handler.list_after here v s.members ds) (handler.news_of here v s.own) s (handler.row_after here v s.members.table s.departed)
    ∙ ap (λ (x : Stop). or_stop x (heaps_stop (handler.news_of here v s.own) s)) (list_stops v s.members ds)

unless-stopped : {B : Type 0} (x : Answer B) (g : Grounds) → unless_refused x g ≡ unless_stopped (stop_in x) g
unless-stopped (refused r) g = refl
unless-stopped (done b ds) g = refl

by_parts : (e : W.Event Addr) (s : M.Node Addr)
    → because here e s (verdict_on here e s) ≡ parts_grounds s.members.table (W.parts_of here e) (from_found (M.held_death here (W.parts_of here e).subject s)) (verdict_on here e s)
unfolding because W.parts_of reason_of
by_parts W.Nothing s = refl
by_parts (W.Joined f a n) s = refl
by_parts (W.Recovered f a n) s = refl
by_parts (W.Suspected f a n) s = refl
by_parts (W.Deceased f a n) s = refl

-- the rules, as the code goes about them
pub weighed : (e : W.Event Addr) (s : M.Node Addr) (ds : List ℕ)
    → weigh here e s ds
    ≡ unless_stopped (stop_of s (verdict_on here e s) (length ds)) (parts_grounds s.members.table (W.parts_of here e) (from_found (M.held_death here (W.parts_of here e).subject s)) (verdict_on here e s))
unfolding weigh
weighed e s ds =
    unless-stopped (handler.act here (verdict_on here e s) s ds) (because here e s (verdict_on here e s))
    ∙ (λ i. unless_stopped (act_stops (verdict_on here e s) s ds i) (by_parts e s i))
