-- Values by numbers: each text has a list of names for its constructors, one for its vals and one for its relations, and each list begins
-- behind that of the text before it. A name that interface and body both declare is one, at its place in the interface. The prelude is a
-- text before all others.
use Rattle.std.specs.Prelude.{ℕ, ◌+◌, ◌-◌, ◌^◌, min, Bool, true, false, nat_eq, List, [], ◌∷◌, length, Option, None, Some, if◌then◌else◌}
use Rattle.rml_tables.specs.Words.{place_of, with_name}
use Rattle.rml_outlines.specs.Declarations as declared
use Rattle.rml_outlines.specs.declared.entry.ValueEntry.{ValueEntry}
use Rattle.rml_outlines.specs.declared.entry.ValueEntry.TheVariants as entry
use Rattle.rml_outlines.specs.declared.known.Known.{Known}
use Rattle.rml_outlines.specs.declared.outline.Outline.{Outline}
use Rattle.rml_values.specs.declared.numbers.Begins.{Begins}
use Rattle.rml_values.specs.declared.numbers.Kind.{Kind}
use Rattle.rml_values.specs.declared.numbers.Kind.TheVariants as kind
use Rattle.rml_values.specs.declared.numbers.Numbered.{Numbered}
use Rattle.rml_values.specs.declared.numbers.TextValues.{TextValues}
use Rattle.rml_values.specs.declared.values.Values.{Values}

-- numbers have 32 bits; a set of texts within the limits has no greater ones
abbrev pub capped : ℕ → ℕ
capped n = min n (2 ^ 32 - 1)

abbrev pub is_of : Kind → ValueEntry → Bool
is_of kind.Constructors (entry.Constructor count) = true
is_of kind.Vals entry.Val = true
is_of kind.Relations entry.Relation = true
is_of k e = false

-- the names of a kind among some that are declared, behind others

abbrev pub with_entry : Kind → List ℕ → Option (ℕ × ValueEntry) → List ℕ
with_entry k names None = names
with_entry k names (Some x) = if is_of k x.1 then with_name nat_eq names x.0 else names

abbrev pub with_kind : Kind → List ℕ → declared.Values → List ℕ
with_kind k names [] = names
with_kind k names (x ∷ xs) = with_kind k (with_entry k names (Some x)) xs

-- the names of a kind that a text declares: those of its interface, then those of its body
unfoldable pub names_of : Kind → Outline → List ℕ
names_of k o = with_kind k (with_kind k [] o.interface.values) o.body.values

-- the number of a name of a list: it is that of the first name, and as many more as stand before it
unfoldable pub number : Numbered → ℕ → ℕ
number n name = capped (n.first + place_of nat_eq name n.names)

-- the number behind all of a list
abbrev pub behind : Numbered → ℕ
behind n = capped (n.first + length n.names)

-- the lists of a text, where these are the numbers of the first of each kind
unfoldable pub lists_of : Begins → Outline → TextValues
lists_of b o = record {
  cons = record { first = b.cons; names = names_of kind.Constructors o };
  vals = record { first = b.vals; names = names_of kind.Vals o };
  relations = record { first = b.relations; names = names_of kind.Relations o };
}

-- where the lists behind those of a text begin
unfoldable pub behind_text : TextValues → Begins
behind_text t = record { cons = behind t.cons; vals = behind t.vals; relations = behind t.relations }

abbrev pub lists_from : Begins → List Outline → List TextValues
lists_from b [] = []
lists_from b (o ∷ os) = lists_of b o ∷ lists_from (behind_text (lists_of b o)) os

abbrev pub end_from : Begins → List Outline → Begins
end_from b [] = b
end_from b (o ∷ os) = end_from (behind_text (lists_of b o)) os

-- Where the prelude's lists begin. Before its constructors stand `nil`, with the number 0, and `::`, with the number 1, which no name means.
abbrev pub first_of_all : Begins
first_of_all = record { cons = 2; vals = 0; relations = 0 }

-- the numbers of all values of a set, by the outline of the prelude and the names of the built-ins in the order of their table
unfoldable pub values_of : Outline → List ℕ → Known → Values
values_of prelude rows k =
    let given = lists_of first_of_all prelude in
    record { prelude = given; texts = lists_from (behind_text given) k.texts; end = end_from (behind_text given) k.texts; rows = rows }
