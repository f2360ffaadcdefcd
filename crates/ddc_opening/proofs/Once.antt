-- Devices open to one cache, or have one fault.
use Rattle.std.proofs.Common.{◌≡◌, ◌≢◌, ◌⊎◌, inl, inr, ℕ, ◌+◌, List, [], ◌∷◌, ◌++◌, length, refl, sym, ◌∙◌, ap, subst, arith}
use Rattle.std.specs.Prelude.{Some}
use Rattle.std.specs.Ordering.{ordering_reverse}
use Rattle.std.specs.declared.cmp.Ordering.{Ordering}
use Rattle.std.specs.declared.cmp.Ordering.TheVariants.{Less, Equal, Greater}
use Rattle.ddc_names.specs.declared.reference.RefName.{RefName}
use Rattle.ddc_names.specs.Orders.{ref_name_cmp, ref_name_exact, ref_name_total}
use Rattle.ddc_journal.specs.Journal.{front_size, items}
use Rattle.ddc_journal.specs.Pairs.{IsPairOf, PairFault}
use Rattle.ddc_journal.specs.Laws.{OnePair, PairOrFault, OnePairFault}
use Rattle.ddc_journal.specs.declared.fault.JournalFault.{JournalFault}
use Rattle.ddc_journal.specs.declared.fault.JournalFault.TheVariants as journal
use Rattle.ddc_model.specs.declared.rows.Limits.{Limits}
use Rattle.ddc_model.specs.declared.entry.Entry.{Entry}
use Rattle.ddc_model.specs.State.{State, empty_state}
use Rattle.ddc_model.specs.Entries.{after}
use Rattle.ddc_model.specs.Sound.{IsFirstUnsound}
use Rattle.ddc_entry.specs.Laws.{OneEntry}
use Rattle.ddc_opening.specs.Opening.{version, AreSpelled, AreLegal, after_all, HoldState, bytes_in, IsNoChange, HasNoChangeAt, taken_number, OpenFaultOf}
use Rattle.ddc_opening.specs.inside.Replaying.{of_journal}
use Rattle.ddc_opening.specs.Laws.{OneHolding, OneOpening, OpensOrFails, OneOpenFault}
use Rattle.ddc_opening.specs.declared.fault.OpenFault.{OpenFault}
use Rattle.ddc_opening.specs.declared.fault.OpenFault.TheVariants.{DiskFailed, NotMade, Corrupt, BadVersion, Unsound, NoMemory}

-- of two references that are the first, each is the other
one_first : (s : State) (name other : RefName) → IsFirstUnsound s name → IsFirstUnsound s other → name ≡ other
one_first s name other x y = split (ref_name_cmp name other) refl where
  split : (o : Ordering) → ref_name_cmp name other ≡ o → name ≡ other
  split Less is = absurd (x.lacks (y.first name x.slot x.hash is x.there x.done))
  split Equal is = ref_name_exact name other is
  split Greater is = absurd (y.lacks (x.first other y.slot y.hash (ref_name_total.antisymm other name ∙ ap ordering_reverse is) y.there y.done))

-- the front of two lists that begin alike
first_same : (a b : List ℕ) (xs ys : List (List ℕ)) → a ∷ xs ≡ b ∷ ys → a ≡ b
first_same a b xs ys e = cc e

rest_same : (a b : List ℕ) (xs ys : List (List ℕ)) → a ∷ xs ≡ b ∷ ys → xs ≡ ys
rest_same a b xs ys e = cc e

module _ (one_entry : OneEntry) where
  -- bodies are entries in one way
  one_spelling : (bodies : List (List ℕ)) (all others : List Entry) → AreSpelled bodies all → AreSpelled bodies others → all ≡ others
  one_spelling [] [] [] x y = refl
  one_spelling [] [] (f ∷ others) x y = absurd y
  one_spelling [] (e ∷ all) others x y = absurd x
  one_spelling (body ∷ bodies) [] others x y = absurd x
  one_spelling (body ∷ bodies) (e ∷ all) [] x y = absurd y
  one_spelling (body ∷ bodies) (e ∷ all) (f ∷ others) x y =
      let same = one_entry e f x.0 y.0 (sym x.1 ∙ y.1) in
      let later = one_spelling bodies all others x.2 y.2 in
      λ i. same i ∷ later i

  -- bodies that are legal entries are changes
  no_change_within : (good : List (List ℕ)) (bad : List ℕ) (others : List (List ℕ)) (s : State) (all every : List Entry)
      → AreSpelled good all → IsNoChange (after_all s all) bad → AreSpelled (good ++ bad ∷ others) every → AreLegal s every → ⊥
  no_change_within [] bad others s [] [] x none y legal = y
  no_change_within [] bad others s [] (f ∷ every) x none y legal = none f y.0 y.1 legal.0
  no_change_within [] bad others s (e ∷ all) every x none y legal = x
  no_change_within (body ∷ good) bad others s [] every x none y legal = x
  no_change_within (body ∷ good) bad others s (e ∷ all) [] x none y legal = y
  no_change_within (body ∷ good) bad others s (e ∷ all) (f ∷ every) x none y legal =
      let same = one_entry f e y.0 x.0 (sym y.1 ∙ x.1) in
      no_change_within good bad others (after s e) all every x.2 none y.2 (subst (λ (g : Entry). AreLegal (after s g) every) same legal.1)

  -- the first body that is no change is at one place
  one_stop : (good goods : List (List ℕ)) (bad worse : List ℕ) (others rest : List (List ℕ)) (s : State) (all every : List Entry) → good ++ bad ∷ others ≡ goods ++ worse ∷ rest
      → AreSpelled good all → AreLegal s all → IsNoChange (after_all s all) bad → AreSpelled goods every → AreLegal s every → IsNoChange (after_all s every) worse → good ≡ goods
  one_stop [] [] bad worse others rest s all every e x legal none y lawful nor = refl
  one_stop [] (body ∷ goods) bad worse others rest s (f ∷ all) every e x legal none y lawful nor = absurd x
  one_stop [] (body ∷ goods) bad worse others rest s [] [] e x legal none y lawful nor = absurd y
  one_stop [] (body ∷ goods) bad worse others rest s [] (f ∷ every) e x legal none y lawful nor =
      absurd (none f y.0 (first_same bad body others (goods ++ worse ∷ rest) e ∙ y.1) lawful.0)
  one_stop (body ∷ good) [] bad worse others rest s all (f ∷ every) e x legal none y lawful nor = absurd y
  one_stop (body ∷ good) [] bad worse others rest s [] [] e x legal none y lawful nor = absurd x
  one_stop (body ∷ good) [] bad worse others rest s (f ∷ all) [] e x legal none y lawful nor =
      absurd (nor f x.0 (sym (first_same body worse (good ++ bad ∷ others) rest e) ∙ x.1) legal.0)
  one_stop (body ∷ good) (other ∷ goods) bad worse others rest s [] every e x legal none y lawful nor = absurd x
  one_stop (body ∷ good) (other ∷ goods) bad worse others rest s (f ∷ all) [] e x legal none y lawful nor = absurd y
  one_stop (body ∷ good) (other ∷ goods) bad worse others rest s (f ∷ all) (g ∷ every) e x legal none y lawful nor =
      let is = first_same body other (good ++ bad ∷ others) (goods ++ worse ∷ rest) e in
      let same = one_entry g f y.0 x.0 (sym y.1 ∙ sym is ∙ x.1) in
      let here = subst (λ (h : Entry). AreLegal (after s h) every) same lawful.1 in
      let stops = subst (λ (h : Entry). IsNoChange (after_all (after s h) every) worse) same nor in
      let later = one_stop good goods bad worse others rest (after s f) all every (rest_same body other (good ++ bad ∷ others) (goods ++ worse ∷ rest) e) x.2 legal.1 none y.2 here stops in
      λ i. is i ∷ later i

  module _ (one_pair : OnePair) where
    one_list : (first second : List ℕ) (bodies others : List (List ℕ)) → IsPairOf version bodies first second → IsPairOf version others first second → bodies ≡ others
    one_list first second bodies others x y = (one_pair first second version version bodies others (omega arith) (omega arith) x y).1

    pub one_holding : OneHolding
    one_holding limits first second all others x y =
        let same = one_list first second x.bodies y.bodies x.loads y.loads in
        one_spelling x.bodies all others x.spelled (subst (λ (b : List (List ℕ)). AreSpelled b others) (sym same) y.spelled)

    -- and lead to one state
    one_state : (limits : Limits) (first second : List ℕ) (s other : State) → HoldState limits first second s → HoldState limits first second other → s ≡ other
    one_state limits first second s other x y = x.2 ∙ ap (after_all (empty_state limits)) (one_holding limits first second x.0 y.0 x.1 y.1) ∙ sym y.2

    pub one_opening : OneOpening
    one_opening limits im cache other x y =
        let state = one_state limits im.first im.second cache.index other.index x.holds y.holds in
        let bytes = x.bytes ∙ ap (λ (s : State). Some (bytes_in im.blobs s.blobs)) state ∙ sym y.bytes in
        λ i. record { index = state i; bytes = bytes i }

    -- files that hold entries have changes alone
    all_changes : (limits : Limits) (first second : List ℕ) (s : State) (at : ℕ) → HoldState limits first second s → HasNoChangeAt limits first second at → ⊥
    all_changes limits first second s at x y =
        let holds = x.1 in
        let same = one_list first second holds.bodies (y.good ++ y.bad ∷ y.others) holds.loads y.loads in
        no_change_within y.good y.bad y.others (empty_state limits) y.all x.0 y.spelled y.no_change (subst (λ (b : List (List ℕ)). AreSpelled b x.0) same holds.spelled) holds.are_legal

    one_place : (limits : Limits) (first second : List ℕ) (at place : ℕ) → HasNoChangeAt limits first second at → HasNoChangeAt limits first second place → at ≡ place
    one_place limits first second at place x y =
        let same = one_list first second (x.good ++ x.bad ∷ x.others) (y.good ++ y.bad ∷ y.others) x.loads y.loads in
        let good = one_stop x.good y.good x.bad y.bad x.others y.others (empty_state limits) x.all y.all same x.spelled x.are_legal x.no_change y.spelled y.are_legal y.no_change in
        x.place ∙ ap (λ (g : List (List ℕ)). front_size + length (items g)) good ∙ sym y.place

    module _ (pair_or_fault : PairOrFault) where
      -- a pair has none of the faults of a journal
      no_fault : (first second : List ℕ) (bodies : List (List ℕ)) (fault : JournalFault) → IsPairOf version bodies first second → fault ≢ journal.NoMemory → PairFault version first second fault → ⊥
      no_fault first second bodies fault loads content found = pair_or_fault version first second version bodies fault (omega arith) (omega arith) (omega arith) loads content found

      pub opens_or_fails : OpensOrFails
      opens_or_fails limits im cache NotMade x content fault = let holds = x.holds.1 in no_fault im.first im.second holds.bodies journal.NotMade holds.loads (λ e. cc e) fault
      opens_or_fails limits im cache (Corrupt which at) x content (inl fault) = let holds = x.holds.1 in no_fault im.first im.second holds.bodies (journal.Corrupt which at) holds.loads (λ e. cc e) fault
      opens_or_fails limits im cache (Corrupt which at) x content (inr fault) = all_changes limits im.first im.second cache.index at x.holds fault.1
      opens_or_fails limits im cache (BadVersion found) x content fault = let holds = x.holds.1 in no_fault im.first im.second holds.bodies (journal.BadVersion found) holds.loads (λ e. cc e) fault
      opens_or_fails limits im cache (Unsound name) x content fault =
          let same = one_state limits im.first im.second fault.0 cache.index fault.1 x.holds in
          let first = subst (λ (s : State). IsFirstUnsound s name) same fault.2 in
          first.lacks (x.whole name first.slot first.hash first.there first.done)
      opens_or_fails limits im cache DiskFailed x content fault = fault
      opens_or_fails limits im cache NoMemory x content fault = content refl

      module _ (one_pair_fault : OnePairFault) where
        -- the three causes of a fault
        record FromJournal (first second : List ℕ) (fault : OpenFault) : Type 0 where
          pub cause : JournalFault
          pub content : cause ≢ journal.NoMemory
          pub found : PairFault version first second cause
          pub is : fault ≡ of_journal cause

        record FromBody (limits : Limits) (first second : List ℕ) (fault : OpenFault) : Type 0 where
          pub at : ℕ
          pub found : HasNoChangeAt limits first second at
          pub is : fault ≡ Corrupt (taken_number first second) at

        record FromName (limits : Limits) (first second : List ℕ) (fault : OpenFault) : Type 0 where
          pub name : RefName
          pub state : State
          pub holds : HoldState limits first second state
          pub first_is : IsFirstUnsound state name
          pub is : fault ≡ Unsound name

        abbrev Cause : Limits → List ℕ → List ℕ → OpenFault → Type 0
        Cause limits first second fault = FromJournal first second fault ⊎ FromBody limits first second fault ⊎ FromName limits first second fault

        causes : (limits : Limits) (first second : List ℕ) (fault : OpenFault) → fault ≢ NoMemory → OpenFaultOf limits first second fault → Cause limits first second fault
        causes limits first second NotMade content x = inl (record { cause = journal.NotMade; content = λ e. cc e; found = x; is = refl })
        causes limits first second (Corrupt which at) content (inl x) = inl (record { cause = journal.Corrupt which at; content = λ e. cc e; found = x; is = refl })
        causes limits first second (Corrupt which at) content (inr x) = inr (inl (record { at = at; found = x.1; is = ap (λ (w : ℕ). Corrupt w at) x.0 }))
        causes limits first second (BadVersion found) content x = inl (record { cause = journal.BadVersion found; content = λ e. cc e; found = x; is = refl })
        causes limits first second (Unsound name) content x = inr (inr (record { name = name; state = x.0; holds = x.1; first_is = x.2; is = refl }))
        causes limits first second DiskFailed content x = absurd x
        causes limits first second NoMemory content x = absurd (content refl)

        -- a journal has none of the bodies' faults
        no_journal : (first second : List ℕ) (fault : OpenFault) (bodies : List (List ℕ)) → FromJournal first second fault → IsPairOf version bodies first second → ⊥
        no_journal first second fault bodies x loads = no_fault first second bodies x.cause loads x.content x.found

        same_fault : (limits : Limits) (first second : List ℕ) (fault other : OpenFault) → Cause limits first second fault → Cause limits first second other → fault ≡ other
        same_fault limits first second fault other (inl x) (inl y) = x.is ∙ ap of_journal (one_pair_fault version first second x.cause y.cause x.content y.content x.found y.found) ∙ sym y.is
        same_fault limits first second fault other (inl x) (inr (inl y)) = absurd (no_journal first second fault (y.found.good ++ y.found.bad ∷ y.found.others) x y.found.loads)
        same_fault limits first second fault other (inl x) (inr (inr y)) = let holds = y.holds.1 in absurd (no_journal first second fault holds.bodies x holds.loads)
        same_fault limits first second fault other (inr (inl x)) (inl y) = absurd (no_journal first second other (x.found.good ++ x.found.bad ∷ x.found.others) y x.found.loads)
        same_fault limits first second fault other (inr (inl x)) (inr (inl y)) = x.is ∙ ap (λ (at : ℕ). Corrupt (taken_number first second) at) (one_place limits first second x.at y.at x.found y.found) ∙ sym y.is
        same_fault limits first second fault other (inr (inl x)) (inr (inr y)) = absurd (all_changes limits first second y.state x.at y.holds x.found)
        same_fault limits first second fault other (inr (inr x)) (inl y) = let holds = x.holds.1 in absurd (no_journal first second other holds.bodies y holds.loads)
        same_fault limits first second fault other (inr (inr x)) (inr (inl y)) = absurd (all_changes limits first second x.state y.at x.holds y.found)
        same_fault limits first second fault other (inr (inr x)) (inr (inr y)) =
            let same = one_state limits first second x.state y.state x.holds y.holds in
            x.is ∙ ap Unsound (one_first y.state x.name y.name (subst (λ (s : State). IsFirstUnsound s x.name) same x.first_is) y.first_is) ∙ sym y.is

        pub one_fault : OneOpenFault
        one_fault limits first second fault other cf co x y = same_fault limits first second fault other (causes limits first second fault cf x) (causes limits first second other co y)
