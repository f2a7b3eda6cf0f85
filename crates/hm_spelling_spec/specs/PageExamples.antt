-- Trees of small pages and spellings of them, by computing. The terms say how each piece is spelled.
use Rattle.std.specs.Prelude.{⊤, true, false, List, [], ◌∷◌, codes, refl}
use Rattle.std.specs.Str.{chars}
use lib.Utf8.{encode}
use Rattle.hm_base.specs.Bytes.{is_space, is_letter, is_alnum, is_digit_of, lower}
use Rattle.hm_base.specs.Walks.{Event, doctype, start, text, end}
use Rattle.hm_base.specs.declared.plain.SpellRules.{SpellRules}
use Rattle.hm_elements.specs.Names.{is_among}
use Rattle.hm_elements.specs.Tables.{voids, rcdata_names, sections, blocks, headings, is_void, is_rcdata, is_section}
use Rattle.hm_elements.specs.Omission.{before_rows, end_tag_optional_before, up_names, up_of_p, end_tag_optional_in, start_rows, start_tag_optional_before, start_tag_required_after}
use Rattle.hm_markup_spec.specs.Gaps.{is_gap}
use Rattle.hm_markup_spec.specs.Tags.{bare, unquoted, double, single}
use Rattle.hm_refs.specs.Examples.{seven}
use Rattle.hm_refs.specs.Names.{found_here}
use Rattle.hm_refs.specs.Numbers.{point_of, best_number}
use Rattle.hm_refs.specs.References.{reference, value_of, is_blocked}
use Rattle.hm_spelling_spec.specs.Characters.{opens_text, is_barred, is_writable, may_stand, stays, is_section as is_cdata, itself, reference_to, section}
use Rattle.hm_spelling_spec.specs.Omission.{head_takes, start_falls, may_omit_start, end_falls, may_omit_end}
use Rattle.hm_spelling_spec.specs.Spellings.{drops_first_line_feed, omitted, written, slashed, absent, Spells}

unfoldable pub on_literals : ⊤
unfolding chars encode is_space is_letter is_alnum is_digit_of lower is_among voids rcdata_names sections blocks headings is_void is_rcdata is_section before_rows end_tag_optional_before up_names up_of_p end_tag_optional_in start_rows start_tag_optional_before start_tag_required_after is_gap found_here point_of best_number reference value_of is_blocked opens_text is_barred is_writable may_stand stays is_cdata head_takes start_falls may_omit_start end_falls may_omit_end drops_first_line_feed
on_literals = tt

abbrev usual : SpellRules
usual = record { omit = true; unquote = true; tight = false; ascii = false; frame = false }

abbrev two_paragraphs_tree : List Event
two_paragraphs_tree =
    doctype false
    ∷ start (codes "html") false []
    ∷ start (codes "head") false []
    ∷ end (codes "head") false
    ∷ start (codes "body") false []
    ∷ start (codes "p") false []
    ∷ text (codes "a") false
    ∷ end (codes "p") false
    ∷ start (codes "p") false []
    ∷ text (codes "b") false
    ∷ end (codes "p") false
    ∷ end (codes "body") false
    ∷ end (codes "html") false
    ∷ []

two_paragraphs : Spells [] (usual) two_paragraphs_tree (codes "<!doctype html><p>a<p>b")
unfolding on_literals
two_paragraphs = (
  codes "<!doctype html>",
  codes "<p>a<p>b",
  refl,
  record { word = codes "<!doctype"; gap = codes " "; name = codes "html"; tail = []; whole = refl; word_is = refl; gap_is = refl; name_is = refl; tail_is = refl },
  (
    omitted,
    [],
    codes "<p>a<p>b",
    refl,
    (refl, refl),
    (
      omitted,
      [],
      codes "<p>a<p>b",
      refl,
      (refl, refl),
      (
        omitted,
        [],
        codes "<p>a<p>b",
        refl,
        (refl, refl, refl),
        (
          omitted,
          [],
          codes "<p>a<p>b",
          refl,
          (refl, refl),
          (
            written,
            codes "<p>",
            codes "a<p>b",
            refl,
            record { written = codes "p"; last = bare; middle = []; gap = []; is = refl; lowered = refl; attributed = (refl, refl); apart = refl },
            (
              codes "a",
              codes "<p>b",
              refl,
              record { pieces = itself 97 ∷ []; whole = refl; means = refl; allowed = ((refl, refl), tt) },
              (
                omitted,
                [],
                codes "<p>b",
                refl,
                (refl, refl, refl),
                (
                  written,
                  codes "<p>",
                  codes "b",
                  refl,
                  record { written = codes "p"; last = bare; middle = []; gap = []; is = refl; lowered = refl; attributed = (refl, refl); apart = refl },
                  (
                    codes "b",
                    [],
                    refl,
                    record { pieces = itself 98 ∷ []; whole = refl; means = refl; allowed = ((refl, refl), tt) },
                    (
                      omitted,
                      [],
                      [],
                      refl,
                      (refl, refl, refl),
                      (
                        omitted,
                        [],
                        [],
                        refl,
                        (refl, refl, refl),
                        (
                          omitted,
                          [],
                          [],
                          refl,
                          (refl, refl, refl),
                          refl,
                        ),
                      ),
                    ),
                  ),
                ),
              ),
            ),
          ),
        ),
      ),
    ),
  ),
)

abbrev sections_of_a_table_tree : List Event
sections_of_a_table_tree =
    doctype false
    ∷ start (codes "html") false []
    ∷ start (codes "head") false []
    ∷ end (codes "head") false
    ∷ start (codes "body") false []
    ∷ start (codes "table") false []
    ∷ start (codes "thead") false []
    ∷ start (codes "tr") false []
    ∷ start (codes "td") false []
    ∷ text (codes "a") false
    ∷ end (codes "td") false
    ∷ end (codes "tr") false
    ∷ end (codes "thead") false
    ∷ start (codes "tbody") false []
    ∷ start (codes "tr") false []
    ∷ start (codes "td") false []
    ∷ text (codes "b") false
    ∷ end (codes "td") false
    ∷ end (codes "tr") false
    ∷ end (codes "tbody") false
    ∷ end (codes "table") false
    ∷ end (codes "body") false
    ∷ end (codes "html") false
    ∷ []

sections_of_a_table : Spells [] (usual) sections_of_a_table_tree (codes "<!doctype html><table><thead><tr><td>a<tbody><tr><td>b</table>")
unfolding on_literals
sections_of_a_table = (
  codes "<!doctype html>",
  codes "<table><thead><tr><td>a<tbody><tr><td>b</table>",
  refl,
  record { word = codes "<!doctype"; gap = codes " "; name = codes "html"; tail = []; whole = refl; word_is = refl; gap_is = refl; name_is = refl; tail_is = refl },
  (
    omitted,
    [],
    codes "<table><thead><tr><td>a<tbody><tr><td>b</table>",
    refl,
    (refl, refl),
    (
      omitted,
      [],
      codes "<table><thead><tr><td>a<tbody><tr><td>b</table>",
      refl,
      (refl, refl),
      (
        omitted,
        [],
        codes "<table><thead><tr><td>a<tbody><tr><td>b</table>",
        refl,
        (refl, refl, refl),
        (
          omitted,
          [],
          codes "<table><thead><tr><td>a<tbody><tr><td>b</table>",
          refl,
          (refl, refl),
          (
            written,
            codes "<table>",
            codes "<thead><tr><td>a<tbody><tr><td>b</table>",
            refl,
            record { written = codes "table"; last = bare; middle = []; gap = []; is = refl; lowered = refl; attributed = (refl, refl); apart = refl },
            (
              written,
              codes "<thead>",
              codes "<tr><td>a<tbody><tr><td>b</table>",
              refl,
              record { written = codes "thead"; last = bare; middle = []; gap = []; is = refl; lowered = refl; attributed = (refl, refl); apart = refl },
              (
                written,
                codes "<tr>",
                codes "<td>a<tbody><tr><td>b</table>",
                refl,
                record { written = codes "tr"; last = bare; middle = []; gap = []; is = refl; lowered = refl; attributed = (refl, refl); apart = refl },
                (
                  written,
                  codes "<td>",
                  codes "a<tbody><tr><td>b</table>",
                  refl,
                  record { written = codes "td"; last = bare; middle = []; gap = []; is = refl; lowered = refl; attributed = (refl, refl); apart = refl },
                  (
                    codes "a",
                    codes "<tbody><tr><td>b</table>",
                    refl,
                    record { pieces = itself 97 ∷ []; whole = refl; means = refl; allowed = ((refl, refl), tt) },
                    (
                      omitted,
                      [],
                      codes "<tbody><tr><td>b</table>",
                      refl,
                      (refl, refl, refl),
                      (
                        omitted,
                        [],
                        codes "<tbody><tr><td>b</table>",
                        refl,
                        (refl, refl, refl),
                        (
                          omitted,
                          [],
                          codes "<tbody><tr><td>b</table>",
                          refl,
                          (refl, refl, refl),
                          (
                            written,
                            codes "<tbody>",
                            codes "<tr><td>b</table>",
                            refl,
                            record { written = codes "tbody"; last = bare; middle = []; gap = []; is = refl; lowered = refl; attributed = (refl, refl); apart = refl },
                            (
                              written,
                              codes "<tr>",
                              codes "<td>b</table>",
                              refl,
                              record { written = codes "tr"; last = bare; middle = []; gap = []; is = refl; lowered = refl; attributed = (refl, refl); apart = refl },
                              (
                                written,
                                codes "<td>",
                                codes "b</table>",
                                refl,
                                record { written = codes "td"; last = bare; middle = []; gap = []; is = refl; lowered = refl; attributed = (refl, refl); apart = refl },
                                (
                                  codes "b",
                                  codes "</table>",
                                  refl,
                                  record { pieces = itself 98 ∷ []; whole = refl; means = refl; allowed = ((refl, refl), tt) },
                                  (
                                    omitted,
                                    [],
                                    codes "</table>",
                                    refl,
                                    (refl, refl, refl),
                                    (
                                      omitted,
                                      [],
                                      codes "</table>",
                                      refl,
                                      (refl, refl, refl),
                                      (
                                        omitted,
                                        [],
                                        codes "</table>",
                                        refl,
                                        (refl, refl, refl),
                                        (
                                          written,
                                          codes "</table>",
                                          [],
                                          refl,
                                          (refl, record { written = codes "table"; gap = []; is = refl; lowered = refl; blank = refl }),
                                          (
                                            omitted,
                                            [],
                                            [],
                                            refl,
                                            (refl, refl, refl),
                                            (
                                              omitted,
                                              [],
                                              [],
                                              refl,
                                              (refl, refl, refl),
                                              refl,
                                            ),
                                          ),
                                        ),
                                      ),
                                    ),
                                  ),
                                ),
                              ),
                            ),
                          ),
                        ),
                      ),
                    ),
                  ),
                ),
              ),
            ),
          ),
        ),
      ),
    ),
  ),
)

abbrev quotes_in_a_value_tree : List Event
quotes_in_a_value_tree =
    doctype false
    ∷ start (codes "html") false []
    ∷ start (codes "head") false []
    ∷ end (codes "head") false
    ∷ start (codes "body") false []
    ∷ start (codes "i") false (record { name = codes "title"; value = codes "it's \"x\"" } ∷ [])
    ∷ text (codes "y") false
    ∷ end (codes "i") false
    ∷ end (codes "body") false
    ∷ end (codes "html") false
    ∷ []

quotes_in_a_value : Spells [] (usual) quotes_in_a_value_tree (codes "<!doctype html><i title='it&#39s \"x\"'>y</i>")
unfolding on_literals
quotes_in_a_value = (
  codes "<!doctype html>",
  codes "<i title='it&#39s \"x\"'>y</i>",
  refl,
  record { word = codes "<!doctype"; gap = codes " "; name = codes "html"; tail = []; whole = refl; word_is = refl; gap_is = refl; name_is = refl; tail_is = refl },
  (
    omitted,
    [],
    codes "<i title='it&#39s \"x\"'>y</i>",
    refl,
    (refl, refl),
    (
      omitted,
      [],
      codes "<i title='it&#39s \"x\"'>y</i>",
      refl,
      (refl, refl),
      (
        omitted,
        [],
        codes "<i title='it&#39s \"x\"'>y</i>",
        refl,
        (refl, refl, refl),
        (
          omitted,
          [],
          codes "<i title='it&#39s \"x\"'>y</i>",
          refl,
          (refl, refl),
          (
            written,
            codes "<i title='it&#39s \"x\"'>",
            codes "y</i>",
            refl,
            record { written = codes "i"; last = single; middle = codes " title='it&#39s \"x\"'"; gap = []; is = refl; lowered = refl; attributed = (single, codes " title='it&#39s \"x\"'", [], refl, record { gap = codes " "; name = codes "title"; value = codes "='it&#39s \"x\"'"; is = refl; apart = refl; lowered = refl; assigned = record { written = codes "it&#39s \"x\""; is = record { left = []; right = []; is = refl; left_blank = refl; right_blank = refl }; spells = record { pieces = itself 105 ∷ itself 116 ∷ reference_to (codes "&#39") (39 ∷ []) ∷ itself 115 ∷ itself 32 ∷ itself 34 ∷ itself 120 ∷ itself 34 ∷ []; whole = refl; means = refl; allowed = ((refl, refl), ((refl, refl), ((refl, refl), ((refl, refl), ((refl, refl), ((refl, refl), ((refl, refl), ((refl, refl), tt)))))))) } } }, (refl, refl)); apart = refl },
            (
              codes "y",
              codes "</i>",
              refl,
              record { pieces = itself 121 ∷ []; whole = refl; means = refl; allowed = ((refl, refl), tt) },
              (
                written,
                codes "</i>",
                [],
                refl,
                (refl, record { written = codes "i"; gap = []; is = refl; lowered = refl; blank = refl }),
                (
                  omitted,
                  [],
                  [],
                  refl,
                  (refl, refl, refl),
                  (
                    omitted,
                    [],
                    [],
                    refl,
                    (refl, refl, refl),
                    refl,
                  ),
                ),
              ),
            ),
          ),
        ),
      ),
    ),
  ),
)

abbrev touching_attributes_tree : List Event
touching_attributes_tree =
    doctype false
    ∷ start (codes "html") false []
    ∷ start (codes "head") false []
    ∷ end (codes "head") false
    ∷ start (codes "body") false []
    ∷ start (codes "a") false (record { name = codes "b"; value = codes "x y" } ∷ record { name = codes "c"; value = codes "z" } ∷ [])
    ∷ text (codes "t") false
    ∷ end (codes "a") false
    ∷ end (codes "body") false
    ∷ end (codes "html") false
    ∷ []

touching_attributes : Spells [] (record usual { tight = true }) touching_attributes_tree (codes "<!doctype html><a b=\"x y\"c=z>t</a>")
unfolding on_literals
touching_attributes = (
  codes "<!doctype html>",
  codes "<a b=\"x y\"c=z>t</a>",
  refl,
  record { word = codes "<!doctype"; gap = codes " "; name = codes "html"; tail = []; whole = refl; word_is = refl; gap_is = refl; name_is = refl; tail_is = refl },
  (
    omitted,
    [],
    codes "<a b=\"x y\"c=z>t</a>",
    refl,
    (refl, refl),
    (
      omitted,
      [],
      codes "<a b=\"x y\"c=z>t</a>",
      refl,
      (refl, refl),
      (
        omitted,
        [],
        codes "<a b=\"x y\"c=z>t</a>",
        refl,
        (refl, refl, refl),
        (
          omitted,
          [],
          codes "<a b=\"x y\"c=z>t</a>",
          refl,
          (refl, refl),
          (
            written,
            codes "<a b=\"x y\"c=z>",
            codes "t</a>",
            refl,
            record { written = codes "a"; last = unquoted; middle = codes " b=\"x y\"c=z"; gap = []; is = refl; lowered = refl; attributed = (double, codes " b=\"x y\"", codes "c=z", refl, record { gap = codes " "; name = codes "b"; value = codes "=\"x y\""; is = refl; apart = refl; lowered = refl; assigned = record { written = codes "x y"; is = record { left = []; right = []; is = refl; left_blank = refl; right_blank = refl }; spells = record { pieces = itself 120 ∷ itself 32 ∷ itself 121 ∷ []; whole = refl; means = refl; allowed = ((refl, refl), ((refl, refl), ((refl, refl), tt))) } } }, (unquoted, codes "c=z", [], refl, record { gap = []; name = codes "c"; value = codes "=z"; is = refl; apart = refl; lowered = refl; assigned = record { written = codes "z"; is = record { left = []; right = []; is = refl; left_blank = refl; right_blank = refl }; allowed = refl; some = refl; spells = record { pieces = itself 122 ∷ []; whole = refl; means = refl; allowed = ((refl, refl), tt) } } }, (refl, refl))); apart = refl },
            (
              codes "t",
              codes "</a>",
              refl,
              record { pieces = itself 116 ∷ []; whole = refl; means = refl; allowed = ((refl, refl), tt) },
              (
                written,
                codes "</a>",
                [],
                refl,
                (refl, record { written = codes "a"; gap = []; is = refl; lowered = refl; blank = refl }),
                (
                  omitted,
                  [],
                  [],
                  refl,
                  (refl, refl, refl),
                  (
                    omitted,
                    [],
                    [],
                    refl,
                    (refl, refl, refl),
                    refl,
                  ),
                ),
              ),
            ),
          ),
        ),
      ),
    ),
  ),
)

abbrev svg_that_closes_itself_tree : List Event
svg_that_closes_itself_tree =
    doctype false
    ∷ start (codes "html") false []
    ∷ start (codes "head") false []
    ∷ end (codes "head") false
    ∷ start (codes "body") false []
    ∷ start (codes "svg") true []
    ∷ start (codes "path") true (record { name = codes "d"; value = codes "M0" } ∷ [])
    ∷ end (codes "path") true
    ∷ end (codes "svg") true
    ∷ end (codes "body") false
    ∷ end (codes "html") false
    ∷ []

svg_that_closes_itself : Spells [] (usual) svg_that_closes_itself_tree (codes "<!doctype html><svg><path d=M0 /></svg>")
unfolding on_literals
svg_that_closes_itself = (
  codes "<!doctype html>",
  codes "<svg><path d=M0 /></svg>",
  refl,
  record { word = codes "<!doctype"; gap = codes " "; name = codes "html"; tail = []; whole = refl; word_is = refl; gap_is = refl; name_is = refl; tail_is = refl },
  (
    omitted,
    [],
    codes "<svg><path d=M0 /></svg>",
    refl,
    (refl, refl),
    (
      omitted,
      [],
      codes "<svg><path d=M0 /></svg>",
      refl,
      (refl, refl),
      (
        omitted,
        [],
        codes "<svg><path d=M0 /></svg>",
        refl,
        (refl, refl, refl),
        (
          omitted,
          [],
          codes "<svg><path d=M0 /></svg>",
          refl,
          (refl, refl),
          (
            written,
            codes "<svg>",
            codes "<path d=M0 /></svg>",
            refl,
            record { written = codes "svg"; last = bare; middle = []; gap = []; is = refl; lowered = refl; attributed = (refl, refl); apart = refl },
            (
              slashed,
              codes "<path d=M0 />",
              codes "</svg>",
              refl,
              (refl, record { written = codes "path"; last = unquoted; middle = codes " d=M0"; gap = codes " "; is = refl; lowered = refl; attributed = (unquoted, codes " d=M0", [], refl, record { gap = codes " "; name = codes "d"; value = codes "=M0"; is = refl; apart = refl; lowered = refl; assigned = record { written = codes "M0"; is = record { left = []; right = []; is = refl; left_blank = refl; right_blank = refl }; allowed = refl; some = refl; spells = record { pieces = itself 77 ∷ itself 48 ∷ []; whole = refl; means = refl; allowed = ((refl, refl), ((refl, refl), tt)) } } }, (refl, refl)); apart = refl }),
              (
                absent,
                [],
                codes "</svg>",
                refl,
                (refl, refl),
                (
                  written,
                  codes "</svg>",
                  [],
                  refl,
                  (refl, record { written = codes "svg"; gap = []; is = refl; lowered = refl; blank = refl }),
                  (
                    omitted,
                    [],
                    [],
                    refl,
                    (refl, refl, refl),
                    (
                      omitted,
                      [],
                      [],
                      refl,
                      (refl, refl, refl),
                      refl,
                    ),
                  ),
                ),
              ),
            ),
          ),
        ),
      ),
    ),
  ),
)

abbrev section_of_svg_tree : List Event
section_of_svg_tree =
    doctype false
    ∷ start (codes "html") false []
    ∷ start (codes "head") false []
    ∷ end (codes "head") false
    ∷ start (codes "body") false []
    ∷ start (codes "svg") true []
    ∷ start (codes "text") true []
    ∷ text (codes "<a<a") false
    ∷ end (codes "text") true
    ∷ end (codes "svg") true
    ∷ end (codes "body") false
    ∷ end (codes "html") false
    ∷ []

section_of_svg : Spells [] (usual) section_of_svg_tree (codes "<!doctype html><svg><text>&#60a<![CDATA[<a]]></text></svg>")
unfolding on_literals
section_of_svg = (
  codes "<!doctype html>",
  codes "<svg><text>&#60a<![CDATA[<a]]></text></svg>",
  refl,
  record { word = codes "<!doctype"; gap = codes " "; name = codes "html"; tail = []; whole = refl; word_is = refl; gap_is = refl; name_is = refl; tail_is = refl },
  (
    omitted,
    [],
    codes "<svg><text>&#60a<![CDATA[<a]]></text></svg>",
    refl,
    (refl, refl),
    (
      omitted,
      [],
      codes "<svg><text>&#60a<![CDATA[<a]]></text></svg>",
      refl,
      (refl, refl),
      (
        omitted,
        [],
        codes "<svg><text>&#60a<![CDATA[<a]]></text></svg>",
        refl,
        (refl, refl, refl),
        (
          omitted,
          [],
          codes "<svg><text>&#60a<![CDATA[<a]]></text></svg>",
          refl,
          (refl, refl),
          (
            written,
            codes "<svg>",
            codes "<text>&#60a<![CDATA[<a]]></text></svg>",
            refl,
            record { written = codes "svg"; last = bare; middle = []; gap = []; is = refl; lowered = refl; attributed = (refl, refl); apart = refl },
            (
              written,
              codes "<text>",
              codes "&#60a<![CDATA[<a]]></text></svg>",
              refl,
              record { written = codes "text"; last = bare; middle = []; gap = []; is = refl; lowered = refl; attributed = (refl, refl); apart = refl },
              (
                codes "&#60a<![CDATA[<a]]>",
                codes "</text></svg>",
                refl,
                record { pieces = reference_to (codes "&#60") (60 ∷ []) ∷ itself 97 ∷ section (60 ∷ 97 ∷ []) ∷ []; whole = refl; means = refl; allowed = ((refl, refl), ((refl, refl), ((refl, refl), tt))) },
                (
                  written,
                  codes "</text>",
                  codes "</svg>",
                  refl,
                  (refl, record { written = codes "text"; gap = []; is = refl; lowered = refl; blank = refl }),
                  (
                    written,
                    codes "</svg>",
                    [],
                    refl,
                    (refl, record { written = codes "svg"; gap = []; is = refl; lowered = refl; blank = refl }),
                    (
                      omitted,
                      [],
                      [],
                      refl,
                      (refl, refl, refl),
                      (
                        omitted,
                        [],
                        [],
                        refl,
                        (refl, refl, refl),
                        refl,
                      ),
                    ),
                  ),
                ),
              ),
            ),
          ),
        ),
      ),
    ),
  ),
)

abbrev two_line_feeds_tree : List Event
two_line_feeds_tree =
    doctype false
    ∷ start (codes "html") false []
    ∷ start (codes "head") false []
    ∷ end (codes "head") false
    ∷ start (codes "body") false []
    ∷ start (codes "pre") false []
    ∷ text ((10 ∷ 120 ∷ [])) false
    ∷ end (codes "pre") false
    ∷ end (codes "body") false
    ∷ end (codes "html") false
    ∷ []

two_line_feeds : Spells [] (usual) two_line_feeds_tree ((60 ∷ 33 ∷ 100 ∷ 111 ∷ 99 ∷ 116 ∷ 121 ∷ 112 ∷ 101 ∷ 32 ∷ 104 ∷ 116 ∷ 109 ∷ 108 ∷ 62 ∷ 60 ∷ 112 ∷ 114 ∷ 101 ∷ 62 ∷ 10 ∷ 10 ∷ 120 ∷ 60 ∷ 47 ∷ 112 ∷ 114 ∷ 101 ∷ 62 ∷ []))
unfolding on_literals
two_line_feeds = (
  codes "<!doctype html>",
  (60 ∷ 112 ∷ 114 ∷ 101 ∷ 62 ∷ 10 ∷ 10 ∷ 120 ∷ 60 ∷ 47 ∷ 112 ∷ 114 ∷ 101 ∷ 62 ∷ []),
  refl,
  record { word = codes "<!doctype"; gap = codes " "; name = codes "html"; tail = []; whole = refl; word_is = refl; gap_is = refl; name_is = refl; tail_is = refl },
  (
    omitted,
    [],
    (60 ∷ 112 ∷ 114 ∷ 101 ∷ 62 ∷ 10 ∷ 10 ∷ 120 ∷ 60 ∷ 47 ∷ 112 ∷ 114 ∷ 101 ∷ 62 ∷ []),
    refl,
    (refl, refl),
    (
      omitted,
      [],
      (60 ∷ 112 ∷ 114 ∷ 101 ∷ 62 ∷ 10 ∷ 10 ∷ 120 ∷ 60 ∷ 47 ∷ 112 ∷ 114 ∷ 101 ∷ 62 ∷ []),
      refl,
      (refl, refl),
      (
        omitted,
        [],
        (60 ∷ 112 ∷ 114 ∷ 101 ∷ 62 ∷ 10 ∷ 10 ∷ 120 ∷ 60 ∷ 47 ∷ 112 ∷ 114 ∷ 101 ∷ 62 ∷ []),
        refl,
        (refl, refl, refl),
        (
          omitted,
          [],
          (60 ∷ 112 ∷ 114 ∷ 101 ∷ 62 ∷ 10 ∷ 10 ∷ 120 ∷ 60 ∷ 47 ∷ 112 ∷ 114 ∷ 101 ∷ 62 ∷ []),
          refl,
          (refl, refl),
          (
            written,
            codes "<pre>",
            (10 ∷ 10 ∷ 120 ∷ 60 ∷ 47 ∷ 112 ∷ 114 ∷ 101 ∷ 62 ∷ []),
            refl,
            record { written = codes "pre"; last = bare; middle = []; gap = []; is = refl; lowered = refl; attributed = (refl, refl); apart = refl },
            (
              (10 ∷ 10 ∷ 120 ∷ []),
              codes "</pre>",
              refl,
              record { pieces = itself 10 ∷ itself 10 ∷ itself 120 ∷ []; whole = refl; means = refl; allowed = ((refl, refl), ((refl, refl), ((refl, refl), tt))) },
              (
                written,
                codes "</pre>",
                [],
                refl,
                (refl, record { written = codes "pre"; gap = []; is = refl; lowered = refl; blank = refl }),
                (
                  omitted,
                  [],
                  [],
                  refl,
                  (refl, refl, refl),
                  (
                    omitted,
                    [],
                    [],
                    refl,
                    (refl, refl, refl),
                    refl,
                  ),
                ),
              ),
            ),
          ),
        ),
      ),
    ),
  ),
)

abbrev names_of_references_tree : List Event
names_of_references_tree =
    doctype false
    ∷ start (codes "html") false []
    ∷ start (codes "head") false []
    ∷ end (codes "head") false
    ∷ start (codes "body") false []
    ∷ text ((97 ∷ 32 ∷ 60 ∷ 32 ∷ 98 ∷ 32 ∷ 38 ∷ 108 ∷ 116 ∷ 59 ∷ 194 ∷ 172 ∷ 105 ∷ 110 ∷ 59 ∷ [])) false
    ∷ end (codes "body") false
    ∷ end (codes "html") false
    ∷ []

names_of_references : Spells seven (record usual { ascii = true }) names_of_references_tree (codes "<!doctype html>a < b &amplt;&not;in;")
unfolding on_literals
names_of_references = (
  codes "<!doctype html>",
  codes "a < b &amplt;&not;in;",
  refl,
  record { word = codes "<!doctype"; gap = codes " "; name = codes "html"; tail = []; whole = refl; word_is = refl; gap_is = refl; name_is = refl; tail_is = refl },
  (
    omitted,
    [],
    codes "a < b &amplt;&not;in;",
    refl,
    (refl, refl),
    (
      omitted,
      [],
      codes "a < b &amplt;&not;in;",
      refl,
      (refl, refl),
      (
        omitted,
        [],
        codes "a < b &amplt;&not;in;",
        refl,
        (refl, refl, refl),
        (
          omitted,
          [],
          codes "a < b &amplt;&not;in;",
          refl,
          (refl, refl),
          (
            codes "a < b &amplt;&not;in;",
            [],
            refl,
            record { pieces = itself 97 ∷ itself 32 ∷ itself 60 ∷ itself 32 ∷ itself 98 ∷ itself 32 ∷ reference_to (codes "&amp") (38 ∷ []) ∷ itself 108 ∷ itself 116 ∷ itself 59 ∷ reference_to (codes "&not;") (172 ∷ []) ∷ itself 105 ∷ itself 110 ∷ itself 59 ∷ []; whole = refl; means = refl; allowed = ((refl, refl), ((refl, refl), ((refl, refl), ((refl, refl), ((refl, refl), ((refl, refl), ((refl, refl), ((refl, refl), ((refl, refl), ((refl, refl), ((refl, refl), ((refl, refl), ((refl, refl), ((refl, refl), tt)))))))))))))) },
            (
              omitted,
              [],
              [],
              refl,
              (refl, refl, refl),
              (
                omitted,
                [],
                [],
                refl,
                (refl, refl, refl),
                refl,
              ),
            ),
          ),
        ),
      ),
    ),
  ),
)
