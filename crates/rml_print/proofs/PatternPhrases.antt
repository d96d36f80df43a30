-- A pattern of printable tokens is printed as a phrase.
use Rattle.std.proofs.Common.{ℕ, List, [], ◌∷◌, map, refl}
use Rattle.rml_base.specs.declared.place.Place.{Place}
use Rattle.rml_syntax.specs.declared.token.Spot.{Spot}
use Rattle.rml_syntax.specs.declared.token.Lit.{Lit}
use Rattle.rml_syntax.specs.declared.token.Key.TheVariants as key
use Rattle.rml_syntax.specs.declared.token.Mark.TheVariants as mark
use Rattle.rml_syntax.specs.declared.token.Token.TheVariants as token
use Rattle.rml_syntax.specs.declared.rules.Long.{Long}
use Rattle.rml_syntax.specs.declared.rules.Pattern.{Pattern}
use Rattle.rml_syntax.specs.declared.rules.Pattern.TheVariants as pat
use Rattle.rml_syntax.specs.declared.rules.Pattern.TheOpen.{Pattern-F}
use Rattle.rml_grammar.specs.Trees.{chain_pat}
use Rattle.rml_grammar.specs.SpelledPatterns as s
use Rattle.rml_grammar.specs.SpelledPatterns.{IsPat, IsPcons, IsPapps, IsPapp, IsPargs1, IsPatom, IsPatTuple, IsPatom1, IsPats, IsMorePats, IsPargs, IsPseq}
use Rattle.rml_print.specs.declared.seats.Seat.TheVariants.{BehindAs, Free, Item}
use Rattle.rml_print.specs.Parts.{Printed, long_tokens}
use Rattle.rml_print.specs.Patterns.{bare_pattern, pattern_at, pattern_tokens}
use Rattle.rml_print.specs.Printable.{IsPrintable}
use Rattle.rml_print.specs.Seats.{pattern_shape_at}
use Rattle.rml_grammar.proofs.Callers.{pattern-Any, pattern-App, pattern-Bind, pattern-Cons, pattern-List, pattern-Lit, pattern-Name, pattern-Tuple}
use Rattle.rml_print.proofs.NamePhrases.{Good, first, long-closed, others}
use Rattle.rml_print.proofs.Phrases.{AllFine, Closed, Fine, Phrase, both, fine, listed-phrase, one, put, square, tupled-phrase}

module _ (names : List (List ℕ)) where
  abbrev pub FinePattern : Pattern → Type 0
  FinePattern p = Fine names (pattern_tokens p)

  abbrev pub FinePatterns : List Pattern → Type 0
  FinePatterns ps = AllFine names (map pattern_tokens ps)

  seated : (p : Pattern-F Printed) → Phrase names (bare_pattern p) → Fine names (pattern_at p)
  seated p h = fine names (pattern_shape_at {A = Printed} p) (bare_pattern p) h

  any-fine : FinePattern pat.Any
  any-fine = rw (pattern-Any Printed pattern_at) (seated Pattern-F.Any (one names (token.Sign mark.Wild) tt refl))

  lit-fine : (l : Lit) → IsPrintable names (token.Lit l) → FinePattern (pat.Lit l)
  lit-fine l h = rw (pattern-Lit Printed pattern_at l) (seated (Pattern-F.Lit l) (one names (token.Lit l) h refl))

  name-fine : (l : Long) → Closed names (long_tokens l) → FinePattern (pat.Name l)
  name-fine l h = rw (pattern-Name Printed pattern_at l) (seated (Pattern-F.Name l) h.phrase)

  app-fine : (l : Long) (ps : List Pattern) → Closed names (long_tokens l) → FinePatterns ps → FinePattern (pat.App l ps)
  app-fine l ps h all = rw (pattern-App Printed pattern_at l ps) (seated (Pattern-F.App l (map pattern_tokens ps)) (both names h.phrase (tupled-phrase names (map pattern_tokens ps) all)))

  tuple-fine : (ps : List Pattern) → FinePatterns ps → FinePattern (pat.Tuple ps)
  tuple-fine ps all = rw (pattern-Tuple Printed pattern_at ps) (seated (Pattern-F.Tuple (map pattern_tokens ps)) (tupled-phrase names (map pattern_tokens ps) all))

  list-fine : (ps : List Pattern) → FinePatterns ps → FinePattern (pat.List ps)
  list-fine ps all = rw (pattern-List Printed pattern_at ps) (seated (Pattern-F.List (map pattern_tokens ps)) (square names (listed-phrase names mark.Comma Free (map pattern_tokens ps) refl all)))

  chain-fine : (p : Pattern) (ps : List Pattern) → FinePatterns (p ∷ ps) → FinePattern (chain_pat (p ∷ ps))
  chain-fine p [] all = all.0
  chain-fine p (q ∷ ps) all =
      let qs : List Pattern = p ∷ q ∷ ps in
      rw (pattern-Cons Printed pattern_at qs) (seated (Pattern-F.Cons (map pattern_tokens qs)) (listed-phrase names mark.TwoColons Item (map pattern_tokens qs) refl all))

  bind-fine : (n : ℕ) (at : Place) (p : Pattern) → IsPrintable names (token.Name n) → FinePattern p → FinePattern (pat.Bind n at p)
  bind-fine n at p h f = rw (pattern-Bind Printed pattern_at n at p) (seated (Pattern-F.Bind n at (pattern_tokens p)) (put names (token.Name n) h refl (put names (token.Word key.KAs) tt refl (f.at BehindAs))))

  mutual
    pub pattern-fine : {us rest : List Spot} {p : Pattern} → IsPat us p rest → Good names us → FinePattern p × Good names rest
    pattern-fine (s.bound {n = n} {p = p} {t = t} a) h = let x = pcons-fine a (others names (others names h)) in (bind-fine n p t (first names h) x.0, x.1)
    pattern-fine (s.unbound e a) h = pcons-fine a h

    pcons-fine : {us rest : List Spot} {p : Pattern} → IsPcons us p rest → Good names us → FinePattern p × Good names rest
    pcons-fine (s.chain {t = p} {ts = ps} a b) h = let x = papp-fine a h in let y = papps-fine b x.1 in (chain-fine p ps (x.0, y.0), y.1)

    papps-fine : {us rest : List Spot} {ps : List Pattern} → IsPapps us ps rest → Good names us → FinePatterns ps × Good names rest
    papps-fine (s.no_papp e) h = (tt, h)
    papps-fine (s.more_papps a b) h = let x = papp-fine a (others names h) in let y = papps-fine b x.1 in ((x.0, y.0), y.1)

    papp-fine : {us rest : List Spot} {p : Pattern} → IsPapp us p rest → Good names us → FinePattern p × Good names rest
    papp-fine (s.name {l = l} a e) h = let x = long-closed names a h in (name-fine l x.0, x.1)
    papp-fine (s.applied {l = l} {ts = ps} a b) h = let x = long-closed names a h in let y = pargs1-fine b x.1 in (app-fine l ps x.0 y.0, y.1)
    papp-fine (s.atom a) h = patom-fine a h

    pargs1-fine : {us rest : List Spot} {ps : List Pattern} → IsPargs1 us ps rest → Good names us → FinePatterns ps × Good names rest
    pargs1-fine (s.bracketed a) h = let x = patterns-fine a (others names h) in (x.0, others names x.1)
    pargs1-fine (s.an_atom a) h = let x = patom1-fine a h in ((x.0, tt), x.1)
    pargs1-fine (s.a_long {l = l} a) h = let x = long-closed names a h in ((name-fine l x.0, tt), x.1)

    patom-fine : {us rest : List Spot} {p : Pattern} → IsPatom us p rest → Good names us → FinePattern p × Good names rest
    patom-fine (s.simple a) h = patom1-fine a h
    patom-fine (s.bracket a) h = let x = pattern-fine a (others names h) in (x.0, others names x.1)
    patom-fine (s.tuple {ts = ps} a) h = let x = pair-fine a h in (tuple-fine ps x.0, x.1)

    pair-fine : {us rest : List Spot} {ps : List Pattern} → IsPatTuple us ps rest → Good names us → FinePatterns ps × Good names rest
    pair-fine (s.two_pats a b c) h =
        let x = pattern-fine a (others names h) in
        let y = pattern-fine b (others names x.1) in
        let z = more-fine c y.1 in
        ((x.0, (y.0, z.0)), others names z.1)

    patom1-fine : {us rest : List Spot} {p : Pattern} → IsPatom1 us p rest → Good names us → FinePattern p × Good names rest
    patom1-fine s.any h = (any-fine, others names h)
    patom1-fine (s.lit {l}) h = (lit-fine l (first names h), others names h)
    patom1-fine s.no_list h = (list-fine [] tt, others names (others names h))
    patom1-fine (s.list {ts = ps} a) h = let x = patterns-fine a (others names h) in (list-fine ps x.0, others names x.1)

    patterns-fine : {us rest : List Spot} {ps : List Pattern} → IsPats us ps rest → Good names us → FinePatterns ps × Good names rest
    patterns-fine (s.some_pats a b) h = let x = pattern-fine a h in let y = more-fine b x.1 in ((x.0, y.0), y.1)

    more-fine : {us rest : List Spot} {ps : List Pattern} → IsMorePats us ps rest → Good names us → FinePatterns ps × Good names rest
    more-fine (s.no_more_pats e) h = (tt, h)
    more-fine (s.more_pats a b) h = let x = pattern-fine a (others names h) in let y = more-fine b x.1 in ((x.0, y.0), y.1)

  pub pargs-fine : {us rest : List Spot} {ps : List Pattern} → IsPargs us ps rest → Good names us → FinePatterns ps × Good names rest
  pargs-fine (s.no_pargs e) h = (tt, h)
  pargs-fine s.empty_pargs h = (tt, others names (others names h))
  pargs-fine (s.pargs1 a) h = pargs1-fine a h

  pub pseq-fine : {us rest : List Spot} {ps : List Pattern} → IsPseq us ps rest → Good names us → FinePatterns ps × Good names rest
  pseq-fine s.no_pats h = (tt, others names (others names h))
  pseq-fine (s.pats a e) h = pair-fine a h
  pseq-fine (s.one_pat a e) h = let x = pattern-fine a h in ((x.0, tt), x.1)
