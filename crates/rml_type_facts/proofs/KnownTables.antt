-- What is asked of the types of texts, by tables that are what the trees say.
use Rattle.std.proofs.Common.{◌≡◌, ℕ, Bool, List, true, false, ap, ◌∙◌, subst, Option, None, Some, Result}
use Rattle.std.specs.Prelude.{IfOk}
use Rattle.rml_base.specs.declared.memory.Memory.{Memory}
use Rattle.rml_base.specs.declared.place.Place.{Place}
use Rattle.rml_types.specs.declared.tree.SchemeTree.{SchemeTree}
use Rattle.rml_abbreviations.specs.Written.{meaning_in, written}
use Rattle.rml_outlines.specs.declared.known.Known.{Known}
use Rattle.rml_scopes.specs.Module.{mains_from}
use Rattle.rml_scopes.specs.declared.world.TypeFacts.{TypeFacts}
use Rattle.rml_syntax.specs.declared.texts.Text.{Text}
use Rattle.rml_signatures.specs.Types.{KnownTypes, WritesOut, context, fully, types_of}
use Rattle.rml_type_facts.specs.Circles.{edges, on_circle}
use Rattle.rml_type_facts.specs.Facts.{Half, different_in, differing, facts_by, facts_from, fits, fits_in, half, type_facts}

-- what is asked of the types of each text, by tables that are what the trees say
pub facts-are : (k : Known) (texts : List Text) (test : ℕ → Bool) (w : KnownTypes) (r : Result (List TypeFacts) Memory) → test ≡ on_circle (edges w texts) → w ≡ types_of k texts
    → IfOk r (λ fs. fs ≡ facts_from test w texts 0 texts) → IfOk r (λ fs. fs ≡ type_facts k texts)
facts-are k texts test w r same is h =
    subst (λ (v : KnownTypes). IfOk r (λ fs. fs ≡ facts_by v texts)) is (subst (λ (t : ℕ → Bool). IfOk r (λ fs. fs ≡ facts_from t w texts 0 texts)) same h)

-- and the places of `main`
pub mains-are : (k : Known) (texts : List Text) (write : SchemeTree → SchemeTree) (w : KnownTypes) (main : ℕ) (places : List Place) → write ≡ fully w texts None → w ≡ types_of k texts
    → places ≡ mains_from (fits_in w write) main 0 texts → places ≡ mains_from (fits k texts) main 0 texts
mains-are k texts write w main places same is h =
    h ∙ ap (λ (f : SchemeTree → SchemeTree). mains_from (fits_in w f) main 0 texts) same
    ∙ ap (λ (v : KnownTypes). mains_from (fits_in v (fully v texts None)) main 0 texts) is

-- the names to which a text gives types that differ, by a table that writes types out there
pub different-are : (w : KnownTypes) (texts : List Text) (text : ℕ) (t : Text) (table items : List (Option SchemeTree)) (outer inner : Half) (r : Result (List ℕ) Memory) → table ≡ items
    → WritesOut w texts (Some text) items → outer ≡ half (context w text false None) t.specs → inner ≡ half (context w text true None) t.decls
    → IfOk r (λ ns. ns ≡ differing (written (meaning_in table)) outer inner) → IfOk r (λ ns. ns ≡ different_in w texts text t)
different-are w texts text t table items outer inner r same writes first second h =
    subst (λ (xs : List ℕ). IfOk r (λ ns. ns ≡ xs))
    (ap (λ ts. differing (written (meaning_in ts)) outer inner) same
    ∙ ap (λ (f : SchemeTree → SchemeTree). differing f outer inner) writes.writes
    ∙ ap (λ (o : Half). differing (fully w texts (Some text)) o inner) first
    ∙ ap (λ (i : Half). differing (fully w texts (Some text)) (half (context w text false None) t.specs) i) second)
    h
