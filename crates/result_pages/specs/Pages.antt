-- A page: constants around the name of a data file, its changes, what is said of its answer, and tables, each written as text; the same of a second file where plans are
-- compared, and how their costs differ.
use Rattle.std.specs.Prelude.{ℕ, List, [], ◌++◌, Option, None, Some, option_map}
use Rattle.result_pages.specs.declared.page_parts.TheConstants.{CHANGES_END, CHANGES_START, COMPARED, NAME_END, PAGE_BODY, PAGE_END, PAGE_START, PLAN_END, PLAN_NAME, PLAN_SAID, PLAN_TABLES, SCRIPT_START}
use Rattle.result_pages.specs.declared.page_style.TheConstants.{STYLE}
use Rattle.result_pages.specs.declared.pages.PagePart.{PagePart}
use Rattle.result_pages.specs.declared.pages.Title.{Title as GivenTitle}
use Rattle.result_pages.specs.declared.script_drawing.TheConstants.{SCRIPT_DRAWING}
use Rattle.result_pages.specs.declared.script_figures.TheConstants.{SCRIPT_FIGURES}
use Rattle.result_pages.specs.declared.script_numbers.TheConstants.{SCRIPT_NUMBERS}
use Rattle.result_pages.specs.declared.script_page.TheConstants.{SCRIPT_PAGE}
use Rattle.result_pages.specs.declared.script_series.TheConstants.{SCRIPT_SERIES}
use Rattle.result_pages.specs.declared.script_tables.TheConstants.{SCRIPT_TABLES}
use Rattle.result_pages.specs.Escaping.{escaped}

-- what names data on a page: the name of their file, and the text of a file of changes where there is one
pub record Title : Type 0 where
  pub name : List ℕ
  pub changes : Option (List ℕ)

-- what a page shows of a data file: what names it, what is said of the answer, and the tables that are drawn
pub record Part : Type 0 where
  pub title : Title
  pub said : List ℕ
  pub tables : List ℕ

abbrev pub title_of : GivenTitle → Title
title_of title = record { name = title.name.now; changes = option_map (λ text. text.now) title.changes }

abbrev pub part_of : PagePart → Part
part_of part = record { title = title_of part.title; said = part.said.now; tables = part.tables.now }

-- the changes, where there are any
unfoldable pub changes_text : Option (List ℕ) → List ℕ
changes_text None = []
changes_text (Some text) = CHANGES_START.now ++ escaped text ++ CHANGES_END.now

-- the name, and the changes
unfoldable pub title_text : Title → List ℕ
title_text title = PLAN_NAME.now ++ escaped title.name ++ NAME_END.now ++ changes_text title.changes

-- the texts between constants
unfoldable pub part_text : Part → List ℕ
part_text part = title_text part.title ++ PLAN_SAID.now ++ escaped part.said ++ PLAN_TABLES.now ++ escaped part.tables ++ PLAN_END.now

-- what comes before the first data file: the head of the page with the style sheet
unfoldable pub page_start : List ℕ
page_start = PAGE_START.now ++ STYLE.now ++ PAGE_BODY.now

-- the script: what reads the texts and makes series of them, and what draws
unfoldable pub reading_script : List ℕ
reading_script = SCRIPT_NUMBERS.now ++ SCRIPT_TABLES.now ++ SCRIPT_SERIES.now

unfoldable pub drawing_script : List ℕ
drawing_script = SCRIPT_DRAWING.now ++ SCRIPT_FIGURES.now ++ SCRIPT_PAGE.now

-- what comes after the last: the lines that tell how the costs of two plans differ, and the script
unfoldable pub page_end : List ℕ → List ℕ
page_end compared = COMPARED.now ++ escaped compared ++ SCRIPT_START.now ++ reading_script ++ drawing_script ++ PAGE_END.now

-- The page of one data file.
unfoldable pub plan_page : Part → List ℕ
plan_page part = page_start ++ part_text part ++ page_end []

-- The page of two whose plans are compared.
unfoldable pub compare_page : Part → Part → List ℕ → List ℕ
compare_page first second compared = page_start ++ part_text first ++ part_text second ++ page_end compared
