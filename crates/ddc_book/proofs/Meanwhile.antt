-- What the devices open to while an entry is made, and once it is made.
use Rattle.std.specs.Prelude.{◌≡◌, ◌⊎◌, ℕ, ◌^◌, ◌≤◌, true, List, [], ◌∷◌, ◌++◌, Option, Some, refl}
use Rattle.std.proofs.Common.{sym, ◌∙◌, ap, subst, inl, inr, arith}
use Rattle.ddc_disk.specs.Images.{Images}
use Rattle.ddc_journal.specs.Pairs.{IsPairOf}
use Rattle.ddc_entry.specs.Spelling.{spelling, IsEntry}
use Rattle.ddc_model.specs.declared.rows.Extent.{Extent}
use Rattle.ddc_model.specs.declared.entry.Entry.{Entry}
use Rattle.ddc_model.specs.State.{State, empty_state}
use Rattle.ddc_model.specs.Extents.{IsPlaced}
use Rattle.ddc_model.specs.Entries.{after, legal}
use Rattle.ddc_model.specs.Counts.{fresh_of}
use Rattle.ddc_model.specs.Commands.{changed}
use Rattle.ddc_model.specs.Sound.{AreWhole}
use Rattle.ddc_model.proofs.Placed.{empty_placed, legal_placed}
use Rattle.blob_store.specs.Bytes.{ChangesOnly}
use Rattle.ddc_opening.specs.Opening.{version, AreSpelled, AreLegal, after_all, HoldState, OpensAs, AllReach, bytes_in, cache_in}
use Rattle.ddc_opening.specs.BytesIn.{same_bytes, bytes_kept}
use Rattle.ddc_opening.specs.Changes.{after_more, legal_more, spelled_more, placed_from_nothing}
use Rattle.ddc_book.specs.Calls.{OpensWhole}
use Rattle.ddc_book.specs.inside.Making.{Brings, StartsLow, Between}
use Rattle.ddc_book.proofs.Written.{place, bytes, written, written_gives, written_reaches, fresh_apart}

module _ (s : State) (all : List Entry) (bodies : List (List ℕ)) (spelled : AreSpelled bodies all) (are_legal : AreLegal (empty_state s.limits) all) (leads : s ≡ after_all (empty_state s.limits) all) where
  -- the blobs stand apart
  pub placed : IsPlaced s
  placed = subst IsPlaced (sym leads) (placed_from_nothing legal_placed empty_placed s.limits all are_legal)

  -- a pair with these bodies holds the state
  pub holds : (a b : List ℕ) → IsPairOf version bodies a b → HoldState s.limits a b s
  holds a b loads = (all, record { bodies = bodies; loads = loads; spelled = spelled; are_legal = are_legal }, leads)

  pub opens : (im : Images) → AreWhole s → IsPairOf version bodies im.first im.second → OpensAs s.limits im (cache_in im.blobs s)
  opens im whole loads = record { holds = holds im.first im.second loads; bytes = refl; whole = whole }

  module _ (entry : Entry) (blob : Option (List ℕ)) (body : List ℕ) (low : s.limits.units ≤ 2 ^ 51) (fits : legal s entry ≡ true) (brings : Brings (fresh_of entry) blob) (spellable : IsEntry entry) (is : body ≡ spelling entry) where
    -- one entry more
    abbrev pub more : List Entry
    more = all ++ entry ∷ []

    pub spelled_next : AreSpelled (bodies ++ body ∷ []) (all ++ entry ∷ [])
    spelled_next = spelled_more bodies all body entry spelled spellable is

    pub legal_next : AreLegal (empty_state s.limits) (all ++ entry ∷ [])
    legal_next = legal_more (empty_state s.limits) all entry are_legal (subst (λ (t : State). legal t entry ≡ true) leads fits)

    pub leads_next : after s entry ≡ after_all (empty_state s.limits) (all ++ entry ∷ [])
    leads_next = ap (λ (t : State). after t entry) leads ∙ sym (after_more (empty_state s.limits) all entry)

    module _ (file : List ℕ) where
      abbrev pub Place : Extent
      Place = place s entry blob placed low fits brings

      abbrev pub Bytes : List ℕ
      Bytes = bytes s entry blob placed low fits brings

      abbrev pub Written : List ℕ
      Written = written s entry blob placed low fits brings file

      -- the journal is as before, and only the extent changed
      opens_before : AreWhole s → AllReach file s → (im : Images) → IsPairOf version bodies im.first im.second → ChangesOnly Place file im.blobs → OpensWhole s.limits im (cache_in file s)
      opens_before whole reach im loads changes = record {
        opens = record {
          holds = holds im.first im.second loads;
          bytes = ap Some (sym (same_bytes im.blobs file s.blobs (bytes_kept Place file im.blobs s placed low reach changes (fresh_apart s entry blob placed low fits brings))));
          whole = whole;
        };
        reach = λ name found there. omega (arith, reach name found there, changes.no_shorter);
      }

      -- the journal has the entry, and the bytes are there
      opens_after : AreWhole (after s entry) → StartsLow (fresh_of entry) → AllReach file s → (im : Images) → IsPairOf version (bodies ++ body ∷ []) im.first im.second → im.blobs ≡ Written → OpensWhole s.limits im (changed (cache_in file s) Bytes (Some entry))
      opens_after whole starts reach im loads at = record {
        opens = record {
          holds = (all ++ entry ∷ [], record { bodies = bodies ++ body ∷ []; loads = loads; spelled = spelled_next; are_legal = legal_next }, leads_next);
          bytes = ap Some (sym (ap (λ (f : List ℕ). bytes_in f (after s entry).blobs) at ∙ written_gives s entry blob placed low fits brings file));
          whole = whole;
        };
        reach = subst (λ (f : List ℕ). AllReach f (after s entry)) (sym at) (written_reaches s entry blob placed low fits brings file starts reach);
      }

      -- so each crash meanwhile opens to the state before or to that after
      pub opens_either : AreWhole s → AreWhole (after s entry) → StartsLow (fresh_of entry) → AllReach file s → (im : Images) → Between bodies body file Place Bytes im
          → OpensWhole s.limits im (cache_in file s) ⊎ OpensWhole s.limits im (changed (cache_in file s) Bytes (Some entry))
      opens_either whole next starts reach im (inl (loads, changes)) = inl (opens_before whole reach im loads changes)
      opens_either whole next starts reach im (inr (loads, at)) = inr (opens_after next starts reach im loads at)
