-- Texts read so far, file by file.
use Rattle.std.proofs.Common.{◌≡◌, ℕ, zero, suc, ◌+◌, ◌<◌, ◌≤◌, List, [], ◌∷◌, ◌++◌, length, take, map, Some, None, refl, sym, ap, subst, ◌∙◌, arith, append_assoc, append-nil, get_or, inl, inr, rules, add-one, take_all, take-append-drop, drop-cons}
use Rattle.std.specs.Prelude.{All, IfErr, IsErrAnd, Result, Ok, Err, slice_index_or, drop}
use Rattle.std.specs.declared.option.Option.{Option}
use Rattle.std.proofs.lemmas.List.{map-append}
use Rattle.std.proofs.lemmas.List.Sums.{sum_by_push}
use Rattle.std.proofs.lemmas.List.Elements.{All-append, All-nil}
use Rattle.std.proofs.Math.Seq.{take-suc}
use Rattle.rml_io.specs.Counts.{raised}
use Rattle.rml_io.specs.Files.{Held, FilesSeen, and_name}
use Rattle.rml_stages.specs.declared.source.Source.{Source}
use Rattle.rml_top.specs.declared.sources.NotRead.{NotRead}
use Rattle.rml_top.specs.declared.sources.NotRead.TheVariants as not_read
use Rattle.rml_top.specs.Reading.{HasRead, MayHaveRead, Next, NextStopped}
use Rattle.rml_top.specs.Sources.{IsHeld, AreHeld, total, AreTexts, IsReached, IsTooLong, PassTotal, RoseBy, after_reads, and_names, HaveRead, HaveReadSome, AreSources, Stopped}

abbrev texts_of : List Source → List (List ℕ)
texts_of sources = map (λ s. s.bytes) sources

abbrev source_names : List Source → List (List ℕ)
source_names sources = map (λ s. s.name) sources

-- so many of the names were read, and these are their texts, with so many bytes
pub record ReadTo (names : List (List ℕ)) (count bytes : ℕ) (before now : FilesSeen) (sources : List Source) : Type 0 where
  pub within : count ≤ length names
  pub held_is : now.held ≡ before.held
  pub names_are : source_names sources ≡ take count names
  pub texts : AreTexts before.held (take count names) (texts_of sources)
  pub bytes_are : bytes ≡ total (texts_of sources)
  pub have_read : HaveRead names count before now
  pub taken : RoseBy bytes before.taken now.taken
  pub later : before.faults ≤ now.faults

-- ---- one more

pub told-nothing : (told : Option (List (List ℕ))) → told ≡ and_names told []
told-nothing None = refl
told-nothing (Some names) = ap Some (sym (append-nil names))

told-more : (told : Option (List (List ℕ))) (names : List (List ℕ)) (name : List ℕ) → and_name (and_names told names) name ≡ and_names told (names ++ name ∷ [])
told-more None names name = refl
told-more (Some all) names name = ap Some (append_assoc all names (name ∷ []))

counts-more : (before n : ℕ) → raised (after_reads before n) 1 ≡ after_reads before (n + 1)
counts-more before zero = refl
counts-more before (suc n) =
    let two : raised (raised before (suc n)) 1 ≡ raised before (suc (suc n)) = omega arith in
    subst (λ (m : ℕ). raised (after_reads before (suc n)) 1 ≡ after_reads before m) (sym (add-one (suc n))) two

held-more : (held : Option Held) (names texts : List (List ℕ)) (name text : List ℕ) → AreHeld held names texts → IsHeld held name text → AreHeld held (names ++ name ∷ []) (texts ++ text ∷ [])
held-more held [] [] name text a h = (h, tt)
held-more held [] (t ∷ ts) name text a h = absurd a
held-more held (n ∷ ns) [] name text a h = absurd a
held-more held (n ∷ ns) (t ∷ ts) name text a h = (a.0, held-more held ns ts name text a.1 h)

all-one : {X : Type 0} (P : X → Type 0) (x : X) → P x → All P (x ∷ [])
all-one P x p = search rules

pub texts-more : (held : Option Held) (names texts : List (List ℕ)) (name text : List ℕ) → AreTexts held names texts → IsHeld held name text → length text ≤ 1048576 → total texts + length text ≤ 4194304
    → AreTexts held (names ++ name ∷ []) (texts ++ text ∷ [])
texts-more held names texts name text t h fit sum = record {
  are_held = held-more held names texts name text t.are_held h;
  within = record {
    each = All-append (λ (x : List ℕ). length x ≤ 1048576) texts (text ∷ []) t.within.each (all-one (λ (x : List ℕ). length x ≤ 1048576) text fit);
    together = (let e = sum_by_push (λ (x : List ℕ). length x) texts text in omega arith);
  };
}

pub no-texts : (held : Option Held) → AreTexts held [] []
no-texts held = record { are_held = tt; within = record { each = All-nil (λ (x : List ℕ). length x ≤ 1048576); together = omega arith } }

-- ---- the loop

pub read-nothing : (names : List (List ℕ)) (seen : FilesSeen) → ReadTo names 0 0 seen seen []
read-nothing names seen = record {
  within = omega arith;
  held_is = refl;
  names_are = refl;
  texts = no-texts seen.held;
  bytes_are = refl;
  have_read = record { asked = told-nothing seen.asked; calls = refl };
  taken = omega arith;
  later = omega arith;
}

name-at : (names : List (List ℕ)) (k : ℕ) → k < length names → take (k + 1) names ≡ take k names ++ slice_index_or names k [] ∷ []
name-at names k lt = subst (λ (n : ℕ). take n names ≡ take k names ++ get_or names k [] ∷ []) (sym (add-one k)) (take-suc names k [] lt)

has-read : (names : List (List ℕ)) (k : ℕ) (before now after : FilesSeen) → k < length names → HaveRead names k before now → HasRead (slice_index_or names k []) now after → HaveRead names (k + 1) before after
has-read names k before now after lt h r = record {
  asked = r.asked ∙ ap (λ (t : Option (List (List ℕ))). and_name t (slice_index_or names k [])) h.asked ∙ told-more before.asked (take k names) (slice_index_or names k []) ∙ ap (λ (ns : List (List ℕ)). and_names before.asked ns) (sym (name-at names k lt));
  calls = r.calls ∙ ap (λ (n : ℕ). raised n 1) h.calls ∙ counts-more before.calls k;
}

rose-more : (a b from mid to : ℕ) → RoseBy a from mid → RoseBy b mid to → RoseBy (a + b) from to
rose-more a b from mid to h k = omega arith

pub read-next : (names : List (List ℕ)) (k bytes : ℕ) (before now after : FilesSeen) (sources : List Source) (source : Source) → k < length names → ReadTo names k bytes before now sources
    → Next (slice_index_or names k []) bytes now after source → after.held ≡ now.held → now.faults ≤ after.faults → ReadTo names (k + 1) (bytes + length source.bytes) before after (sources ++ source ∷ [])
read-next names k bytes before now after sources source lt r n held later =
    let name = slice_index_or names k [] in
    let more : take (k + 1) names ≡ take k names ++ name ∷ [] = name-at names k lt in
    let texts : texts_of (sources ++ source ∷ []) ≡ texts_of sources ++ source.bytes ∷ [] = map-append (λ (s : Source). s.bytes) sources (source ∷ []) in
    let here : IsHeld before.held name source.bytes = subst (λ (h : Option Held). IsHeld h name source.bytes) r.held_is n.held in
    let sum : total (texts_of sources) + length source.bytes ≤ 4194304 = (let t = n.together in let e = r.bytes_are in omega arith) in
    record {
      within = omega arith;
      held_is = held ∙ r.held_is;
      names_are = map-append (λ (s : Source). s.name) sources (source ∷ []) ∙ ap (λ (ns : List (List ℕ)). ns ++ source.name ∷ []) r.names_are ∙ ap (λ (x : List ℕ). take k names ++ x ∷ []) n.name_is ∙ sym more;
      texts = subst (λ (ns : List (List ℕ)). AreTexts before.held ns (texts_of (sources ++ source ∷ []))) (sym more)
          (subst (λ (ts : List (List ℕ)). AreTexts before.held (take k names ++ name ∷ []) ts) (sym texts) (texts-more before.held (take k names) (texts_of sources) name source.bytes r.texts here n.within sum));
      bytes_are = ap (λ (b : ℕ). b + length source.bytes) r.bytes_are ∙ sym (ap total texts ∙ sum_by_push (λ (x : List ℕ). length x) (texts_of sources) source.bytes);
      have_read = has-read names k before now after lt r.have_read n.read;
      taken = rose-more bytes (length source.bytes) before.taken now.taken after.taken r.taken n.taken;
      later = omega (arith, r.later);
    }

-- ---- its ends

take-whole : (names : List (List ℕ)) → take (length names) names ≡ names
take-whole names = take_all (length names) names (omega arith)

pub read-all : (names : List (List ℕ)) (bytes : ℕ) (before now : FilesSeen) (sources : List Source) → ReadTo names (length names) bytes before now sources → AreSources names before now sources
read-all names bytes before now sources r = record {
  names_are = r.names_are ∙ take-whole names;
  texts = subst (λ (ns : List (List ℕ)). AreTexts before.held ns (texts_of sources)) (take-whole names) r.texts;
  have_read = r.have_read;
}

split-at : (names : List (List ℕ)) (k : ℕ) → k < length names → names ≡ take k names ++ slice_index_or names k [] ∷ drop (k + 1) names
split-at names k lt = sym (take-append-drop k names) ∙ ap (λ (ns : List (List ℕ)). take k names ++ ns) (drop-cons names k [] lt ∙ ap (λ (n : ℕ). slice_index_or names k [] ∷ drop n names) (sym (add-one k)))

reached : (names : List (List ℕ)) (k bytes : ℕ) (before now : FilesSeen) (sources : List Source) → k < length names → ReadTo names k bytes before now sources → IsReached before.held names k
reached names k bytes before now sources lt r = record {
  before = take k names;
  name = slice_index_or names k [];
  after = drop (k + 1) names;
  names_are = split-at names k lt;
  number_is = search rules;
  texts = texts_of sources;
  read = r.texts;
}

some-read : (names : List (List ℕ)) (k : ℕ) (before now after : FilesSeen) → k < length names → HaveRead names k before now → MayHaveRead (slice_index_or names k []) now after → HaveReadSome names before after
some-read names k before now after lt h m =
    let calls : after.calls ≡ after_reads before.calls (k + 1) = m.calls ∙ ap (λ (n : ℕ). raised n 1) h.calls ∙ counts-more before.calls k in
    elim m.asked [
      | inl e ↦ record { count = k + 1; told = k + 1; within = omega arith; fewer = omega arith; asked = (has-read names k before now after lt h record { asked = e; calls = m.calls }).asked; calls = calls }
      | inr e ↦ record { count = k + 1; told = k; within = omega arith; fewer = omega arith; asked = e ∙ h.asked; calls = calls }
    ]

pub stops : (names : List (List ℕ)) (k bytes number : ℕ) (before now after : FilesSeen) (sources : List Source) (why : NotRead) → k < length names → number ≡ k → ReadTo names k bytes before now sources
    → NextStopped (slice_index_or names k []) number bytes now after why → Stopped names before after why
unfolding reached
stops names k bytes number before now after sources (not_read.Fault j) lt same r s =
    let at : j ≡ k = s.0 ∙ same in (
      subst (λ (n : ℕ). IsReached before.held names n) (sym at) (reached names k bytes before now sources lt r),
      omega (arith, r.later, s.1),
      subst (λ (n : ℕ). HaveRead names (n + 1) before after) (sym at) (has-read names k before now after lt r.have_read s.2),
    )
stops names k bytes number before now after sources (not_read.Bytes j) lt same r s =
    let at : j ≡ k = s.0 ∙ same in
    let here = reached names k bytes before now sources lt r in
    let long : IsTooLong before.held (slice_index_or names k []) = subst (λ (h : Option Held). IsTooLong h (slice_index_or names k [])) r.held_is s.1 in
    let taken : RoseBy 1048577 before.taken after.taken = (let a = r.taken in let b = s.2 in omega arith) in
    let read = has-read names k before now after lt r.have_read s.3 in
    subst (λ (n : ℕ). (q : IsReached before.held names n) × IsTooLong before.held q.name × RoseBy 1048577 before.taken after.taken × HaveRead names (n + 1) before after) (sym at) (here, long, taken, read)
stops names k bytes number before now after sources (not_read.Total j) lt same r s =
    let at : j ≡ k = s.0 ∙ same in
    let here = reached names k bytes before now sources lt r in
    let held : IsHeld before.held (slice_index_or names k []) s.1 = subst (λ (h : Option Held). IsHeld h (slice_index_or names k []) s.1) r.held_is s.2 in
    let over : 4194304 < total (texts_of sources) + length s.1 = (let e = r.bytes_are in let o = s.4 in omega arith) in
    let taken : RoseBy 4194305 before.taken after.taken = (let a = r.taken in let b = s.5 in let o = s.4 in omega arith) in
    let read = has-read names k before now after lt r.have_read s.6 in
    subst (λ (n : ℕ). (q : IsReached before.held names n) × PassTotal before.held q.texts q.name × RoseBy 4194305 before.taken after.taken × HaveRead names (n + 1) before after) (sym at) (here, (s.1, held, s.3, over), taken, read)
stops names k bytes number before now after sources not_read.Memory lt same r s = some-read names k before now after lt r.have_read s

-- the source was read, and there was no memory to keep it
pub stops-late : {T : Type 0} (names : List (List ℕ)) (k bytes : ℕ) (before now after : FilesSeen) (sources : List Source) (source : Source) (result : Result T NotRead) → k < length names → ReadTo names k bytes before now sources
    → Next (slice_index_or names k []) bytes now after source → IsErrAnd result (λ e. e ≡ not_read.Memory) → IfErr result (Stopped names before after)
stops-late names k bytes before now after sources source (Ok x) lt r n e = tt
stops-late names k bytes before now after sources source (Err why) lt r n e =
    subst (λ (w : NotRead). Stopped names before after w) (sym e) (some-read names k before now after lt r.have_read record { asked = inl n.read.asked; calls = n.read.calls })
