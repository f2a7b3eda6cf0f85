pub mod HtmlNames
